use Rattle.std.proofs.Common.{map, rules}
use Rattle.llb_board.specs.Vertices.{status_of}
use Rattle.llb_board.proofs.FailedAndDownstream.{marked_more, marked_end}
use Rattle.llb_board.proofs.vertices.failed_and_downstream.mark_stopped.Goals as goal

pub loop-v-preserved : goal.loop-v-preserved
loop-v-preserved c =
    marked_more (map status_of c.args.stages.now) c.args.vertices.now c.loop-v.v c.loop-v.stop_marks c.index-vertices-v.result c.is_stopped.result
    c.loop-v.invariant c.loop-v-test.true c.index-vertices-v.is (search rules)

pub returns : goal.returns
returns c = marked_end (map status_of c.args.stages.now) c.args.vertices.now c.loop-v.v c.loop-v.stop_marks c.loop-v.invariant c.loop-v-test.false
