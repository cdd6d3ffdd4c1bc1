use Rattle.llb_board.proofs.FailedAndDownstream.{behind_marked, behind_next, behind_end}
use Rattle.std.proofs.Common.{sym, ◌∙◌}
use Rattle.llb_board.proofs.vertices.failed_and_downstream.is_behind.Goals as goal

pub returns-then-is_marked : goal.returns-then-is_marked
returns-then-is_marked c =
    behind_marked c.args.before.now c.args.inputs.now c.loop-edge.edge-index c.loop-edge.invariant c.loop-edge-test.true
    (sym c.is_marked.ensures ∙ c.if-is_marked.true)

pub loop-edge-preserved : goal.loop-edge-preserved
loop-edge-preserved c =
    behind_next c.args.before.now c.args.inputs.now c.loop-edge.edge-index c.loop-edge.invariant c.loop-edge-test.true
    (sym c.is_marked.ensures ∙ c.if-is_marked.false)

pub returns : goal.returns
returns c = behind_end c.args.before.now c.args.inputs.now c.loop-edge.edge-index c.loop-edge.invariant c.loop-edge-test.false
