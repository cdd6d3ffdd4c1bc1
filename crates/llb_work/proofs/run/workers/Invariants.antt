use Rattle.std.proofs.Common.{◌≤◌, length}
use Rattle.llb_work.proofs.run.workers.Given as goal

abbrev pub invariant-loop-w : goal.invariant-loop-w
invariant-loop-w l = l.w ≤ length l.board.state.workers
