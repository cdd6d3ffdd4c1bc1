use Rattle.llb_ready.proofs.PutAndTake.{begins}
use Rattle.llb_ready.proofs.PassSplitAndJoin.{widens, first_has_all}
use Rattle.llb_ready.proofs.queue.ReadyQueue.new.Goals as goal

pub ruled-requires-clause-rule : goal.ruled-requires-clause-rule
ruled-requires-clause-rule c = begins

pub another-requires-clause-rule : goal.another-requires-clause-rule
another-requires-clause-rule c = widens _ _ (first_has_all _ _ c.loop-i.invariant.hand)
