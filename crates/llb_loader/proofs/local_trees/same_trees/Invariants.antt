use Rattle.std.proofs.Common.{◌≡◌, ℕ, ◌<◌, slice_get}
use Rattle.llb_loader.specs.LocalSources.{locals_of}
use Rattle.llb_loader.proofs.local_trees.same_trees.Given as goal

abbrev pub invariant-loop-i : goal.invariant-loop-i
invariant-loop-i l = (k : ℕ) → k < l.i → slice_get (locals_of l.trees.entries) k ≡ slice_get (locals_of l.others.entries) k
