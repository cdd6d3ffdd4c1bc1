use Rattle.llb_ready.proofs.PutAndTake.{puts, learns}
use Rattle.llb_ready.proofs.queue.ReadyQueue.put.Goals as goal

pub push_as-requires-clause-rule : goal.push_as-requires-clause-rule
push_as-requires-clause-rule g c = (puts _ _ _ _ c.args.pass.now.part.0 c.requires.1, learns _ _)
