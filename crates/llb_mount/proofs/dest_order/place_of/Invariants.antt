use Rattle.std.proofs.Common.{◌≡◌, ℕ, ◌-◌, ◌<◌, ◌≤◌, true, false, length}
use Rattle.llb_mount.specs.View.{dests}
use Rattle.llb_mount.specs.DestOrder.{is_before, dest_of}
use Rattle.llb_mount.proofs.dest_order.place_of.Given as goal

abbrev pub invariant-loop-low : goal.invariant-loop-low
invariant-loop-low l = record {
  low : l.low ≤ l.high;
  high : l.high ≤ length l.rows;
  before : (j : ℕ) → j < l.low → is_before l.path (dest_of (dests l.mounts) l.rows j) ≡ false;
  behind : (j : ℕ) → l.high ≤ j → j < length l.rows → is_before l.path (dest_of (dests l.mounts) l.rows j) ≡ true;
}

abbrev pub decreases-loop-low : goal.decreases-loop-low
decreases-loop-low l = l.high - l.low
