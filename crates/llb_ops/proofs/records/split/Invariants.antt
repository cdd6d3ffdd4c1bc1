use Rattle.std.proofs.Common.{◌≡◌, length}
use Rattle.llb_ops.specs.Table.{shape_of}
use Rattle.llb_ops.specs.Records.{views, records_from}
use Rattle.llb_ops.proofs.RecordSplittingLoop.{with_front}
use Rattle.llb_ops.proofs.records.split.Given as goal

abbrev pub invariant-loop-records : goal.invariant-loop-records
invariant-loop-records l = with_front (views l.records.items) (records_from (shape_of l.fn.message) 0 l.rest) ≡ records_from (shape_of l.fn.message) 0 l.bytes

abbrev pub decreases-loop-records : goal.decreases-loop-records
decreases-loop-records l = length l.rest
