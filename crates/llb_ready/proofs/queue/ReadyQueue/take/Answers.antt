use Rattle.llb_ready.proofs.PutAndTake.{takes, learns}
use Rattle.llb_ready.proofs.WholePassFacts.{took}
use Rattle.llb_ready.proofs.queue.ReadyQueue.take.Goals as goal

pub pop_as-requires-clause-rule : goal.pop_as-requires-clause-rule
pop_as-requires-clause-rule g c = (takes _ _ c.args.pass.now.part.0, learns _ _)

pub returns-clause-whole : goal.returns-clause-whole
returns-clause-whole g c = took _ _ _ c.pop_as.ensures.rule
