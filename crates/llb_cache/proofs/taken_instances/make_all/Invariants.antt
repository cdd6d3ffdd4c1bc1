use Rattle.std.proofs.Common.{◌≡◌, ◌≤◌, ◌+◌, true, length, map, vec_len, vec_capacity}
use Rattle.std.specs.List.{All}
use Rattle.std.specs.Map.{keys_of}
use Rattle.std.specs.Prelude.{if◌then◌else◌}
use Rattle.llb_cache.specs.declared.lease_needs.Instance.{Instance}
use Rattle.llb_cache.specs.Caches.{made_all}
use Rattle.llb_cache.specs.LeasePreparation.{shown, FitsIn}
use Rattle.llb_cache.specs.RowOrder.{AreOrdered, HasRoom}
use Rattle.llb_cache.specs.InstanceMarks.{marked, is_one_of}
use Rattle.llb_cache.proofs.taken_instances.make_all.Given as goal

abbrev pub invariant-loop-ready : goal.invariant-loop-ready
invariant-loop-ready l = record {
  order : AreOrdered l.rows;
  spare : HasRoom l.rows (length l.ready-iterator.rest.items);
  free : vec_len l.marks + length l.ready-iterator.rest.items ≤ vec_capacity l.marks;
  each : length l.marks.items ≡ length l.rows.entries.items;
  room : All FitsIn l.ready-iterator.rest.items;
  made : made_all l.rows.entries.items (map shown l.ready-iterator.rest.items) ≡ made_all l.fn.rows.entries.items (map shown l.fn.readies.items);
  marks : (q : Instance)
      → (if is_one_of (map (λ r. r.place) l.ready-iterator.rest.items) q then true else marked (keys_of l.rows.entries.items) l.marks.items q)
      ≡ (if is_one_of (map (λ r. r.place) l.fn.readies.items) q then true else marked (keys_of l.fn.rows.entries.items) l.fn.marks.items q);
}
