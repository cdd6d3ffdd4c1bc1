use Rattle.llb_ready.proofs.PassSplitAndJoin.{merges}
use Rattle.llb_ready.proofs.queue.ReadyQueue.join.Goals as goal

pub absorb-requires-clause-rule : goal.absorb-requires-clause-rule
absorb-requires-clause-rule c = merges _ _ _ _ c.args.pass.part.0
