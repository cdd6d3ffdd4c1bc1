use Rattle.std.proofs.Common.{◌≡◌, take}
use Rattle.std.specs.Prelude.{option_map}
use Rattle.llb_ops.specs.Records.{view, views, all, last_of}
use Rattle.llb_ops.proofs.records.last.Given as goal

abbrev pub invariant-loop-record : goal.invariant-loop-record
invariant-loop-record l = option_map view l.last ≡ last_of (all l.number (views (take l.record-index l.records)))
