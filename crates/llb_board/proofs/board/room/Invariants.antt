use Rattle.llb_board.proofs.RemainingEventCounts.{CountedSoFar}
use Rattle.llb_board.proofs.board.room.Given as goal

abbrev pub invariant-loop-v : goal.invariant-loop-v
invariant-loop-v l = CountedSoFar l.vertices.build.graph.vertices l.v l.all
