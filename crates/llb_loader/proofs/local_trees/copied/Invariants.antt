use Rattle.std.proofs.Common.{◌≡◌, take}
use Rattle.llb_loader.specs.LocalSources.{locals_of}
use Rattle.llb_loader.proofs.local_trees.copied.Given as goal

abbrev pub invariant-loop-i : goal.invariant-loop-i
invariant-loop-i l = l.copies ≡ take l.i (locals_of l.trees.entries)
