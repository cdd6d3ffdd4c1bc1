use Rattle.llb_work.specs.WorkerPasses.{IsPassFor}
use Rattle.llb_work.specs.Tasks.{IsReport}
use Rattle.llb_work.proofs.thread_scope.Crew.serve.Given as goal

abbrev pub invariant-loop-i : goal.invariant-loop-i
invariant-loop-i g l = record {
  pass : IsPassFor l.self.queue.now l.w l.kit.pass;
  report : IsReport g.S.Gated.may_stop g.S.Gated.start l.w l.report;
}
