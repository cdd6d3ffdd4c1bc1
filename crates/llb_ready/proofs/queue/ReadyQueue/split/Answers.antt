use Rattle.llb_ready.proofs.PassSplitAndJoin.{forks}
use Rattle.llb_ready.proofs.queue.ReadyQueue.split.Goals as goal

pub another-second-requires-clause-rule : goal.another-second-requires-clause-rule
another-second-requires-clause-rule c = forks _ _
