use Rattle.llb_ready.proofs.PutAndTake.{learns}
use Rattle.llb_ready.proofs.WholePassFacts.{no_more_taken}
use Rattle.llb_ready.proofs.queue.ReadyQueue.close.Goals as goal

pub learn_as-requires-clause-rule : goal.learn_as-requires-clause-rule
learn_as-requires-clause-rule c = learns _ _

pub returns-clause-taken : goal.returns-clause-taken
returns-clause-taken c = no_more_taken _ _ c.requires.whole c.learn_as.ensures.rule.1
