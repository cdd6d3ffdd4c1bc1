use Rattle.std.proofs.Common.{◌≡◌, ℕ, ◌<◌, Some, slice_get}
use Rattle.llb_laws.proofs.renaming.are_named_alike.Given as goal

abbrev pub invariant-loop-k : goal.invariant-loop-k
invariant-loop-k l = (k : ℕ) → k < l.k → slice_get l.digests k ≡ Some l.input.digest → slice_get l.others k ≡ Some l.other.digest
