use Rattle.std.proofs.Common.{◌≡◌, ◌≤◌, length, drop}
use Rattle.llb_cache.specs.LeaseAdditions.{unmade}
use Rattle.llb_cache.specs.InstanceMarks.{Unmarks}
use Rattle.llb_cache.specs.RowOrder.{AreOrdered}
use Rattle.llb_cache.proofs.lease_additions.unmake_all.Given as goal

abbrev pub invariant-loop-left : goal.invariant-loop-left
invariant-loop-left l = record {
  places : l.left ≤ length l.places;
  growths : l.left ≤ length l.growths;
  rows : l.rows.entries.items ≡ unmade l.fn.rows.entries.items (drop l.left l.places) (drop l.left l.growths);
  order : AreOrdered l.rows;
  each : length l.marks.items ≡ length l.rows.entries.items;
  marks : Unmarks l.fn.rows.entries.items l.fn.marks.items l.rows.entries.items l.marks.items;
}

abbrev pub decreases-loop-left : goal.decreases-loop-left
decreases-loop-left l = l.left
