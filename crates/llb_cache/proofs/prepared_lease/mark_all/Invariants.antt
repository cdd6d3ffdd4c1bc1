use Rattle.std.proofs.Common.{◌≡◌, true, length, drop}
use Rattle.std.specs.Map.{keys_of}
use Rattle.std.specs.Prelude.{if◌then◌else◌}
use Rattle.llb_cache.specs.declared.lease_needs.Instance.{Instance}
use Rattle.llb_cache.specs.LeasePreparation.{FitEach}
use Rattle.llb_cache.specs.InstanceMarks.{marked, is_one_of}
use Rattle.llb_cache.proofs.prepared_lease.mark_all.Given as goal

abbrev pub invariant-loop-room : goal.invariant-loop-room
invariant-loop-room l = record {
  fits : FitEach (drop l.i l.places) l.room-iterator.rest.items;
  each : length l.marks.items ≡ length l.fn.marks.items;
  marks : (q : Instance)
      → (if is_one_of (drop l.i l.places) q then true else marked (keys_of l.rows.entries.items) l.marks.items q)
      ≡ (if is_one_of l.places q then true else marked (keys_of l.rows.entries.items) l.fn.marks.items q);
}
