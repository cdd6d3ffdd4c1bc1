use Rattle.llb_work.specs.WorkerPasses.{IsPassFor}
use Rattle.llb_work.proofs.thread_scope.Crew.taken.Given as goal

abbrev pub invariant-loop-i : goal.invariant-loop-i
invariant-loop-i g l = IsPassFor l.self.queue.now l.w l.kit.pass
