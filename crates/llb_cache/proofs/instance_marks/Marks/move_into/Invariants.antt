use Rattle.std.proofs.Common.{◌≡◌, ◌<◌, ◌≤◌, ℕ, false, length, slice_index_or}
use Rattle.llb_cache.proofs.instance_marks.Marks.move_into.Given as goal

abbrev pub invariant-loop-number : goal.invariant-loop-number
invariant-loop-number l = record {
  len : length l.items.items ≡ length l.fn.room;
  moved : (k : ℕ) → k < l.number → slice_index_or l.items.items k false ≡ slice_index_or l.mark-items k false;
  left : (k : ℕ) → l.number ≤ k → slice_index_or l.items.items k false ≡ false;
}
