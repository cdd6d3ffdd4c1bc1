use Rattle.std.proofs.Common.{◌≡◌, ℕ, ◌-◌, ◌<◌, ◌≤◌, true, false, length}
use Rattle.llb_cache.specs.RowOrder.{is_before, row_at}
use Rattle.llb_cache.proofs.rows.place_of.Given as goal

abbrev pub invariant-loop-low : goal.invariant-loop-low
invariant-loop-low l = record {
  low : l.low ≤ l.high;
  high : l.high ≤ length l.rows.order.items;
  before : (j : ℕ) → j < l.low → is_before l.rows.entries.items (row_at l.rows.order.items j) l.key ≡ true;
  behind : (j : ℕ) → l.high ≤ j → j < length l.rows.order.items → is_before l.rows.entries.items (row_at l.rows.order.items j) l.key ≡ false;
}

abbrev pub decreases-loop-low : goal.decreases-loop-low
decreases-loop-low l = l.high - l.low
