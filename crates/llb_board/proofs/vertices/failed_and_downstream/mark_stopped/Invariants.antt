use Rattle.std.proofs.Common.{map}
use Rattle.llb_board.specs.Vertices.{status_of}
use Rattle.llb_board.proofs.FailedAndDownstream.{MarkedSoFar}
use Rattle.llb_board.proofs.vertices.failed_and_downstream.mark_stopped.Given as goal

abbrev pub invariant-loop-v : goal.invariant-loop-v
invariant-loop-v l = MarkedSoFar (map status_of l.stages) l.vertices l.v l.stop_marks
