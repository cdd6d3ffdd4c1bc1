use Rattle.std.proofs.Common.{◌≡◌, false, take, length}
use Rattle.std.specs.Map.{keys_of}
use Rattle.llb_cache.specs.InstanceMarks.{Remarks, is_one_of}
use Rattle.llb_cache.proofs.taken_instances.unmark_all.Given as goal

abbrev pub invariant-loop-place : goal.invariant-loop-place
invariant-loop-place l = record {
  marks : Remarks (keys_of l.rows.entries.items) l.fn.marks.items (keys_of l.rows.entries.items) l.marks.items (is_one_of (take l.place-index l.places)) false;
  each : length l.marks.items ≡ length l.fn.marks.items;
}
