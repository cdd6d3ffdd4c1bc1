use Rattle.std.proofs.Common.{◌≡◌, ℕ, length, get_or, []}
use Rattle.llb_loader.specs.ReachedRows.{lists}
use Rattle.llb_loader.proofs.numbering.empty_lists.Given as goal

abbrev pub invariant-loop-i : goal.invariant-loop-i
invariant-loop-i l = record {
  len : length l.all.items ≡ l._i;
  empty : (b : ℕ) → get_or (lists l.all.items) b [] ≡ [];
}
