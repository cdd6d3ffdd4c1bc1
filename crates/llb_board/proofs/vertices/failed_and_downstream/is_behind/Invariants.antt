use Rattle.llb_board.proofs.FailedAndDownstream.{AsBehind}
use Rattle.llb_board.proofs.vertices.failed_and_downstream.is_behind.Given as goal

abbrev pub invariant-loop-edge : goal.invariant-loop-edge
invariant-loop-edge l = AsBehind l.before l.inputs l.edge-index
