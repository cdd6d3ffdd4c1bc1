use Rattle.llb_work.specs.WorkerPasses.{IsUncut}
use Rattle.llb_work.proofs.starting_supplies.put_ready.Given as goal

abbrev pub invariant-loop-v : goal.invariant-loop-v
invariant-loop-v g l = IsUncut l.queue l.pass
