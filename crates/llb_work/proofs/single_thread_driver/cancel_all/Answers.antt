use Rattle.std.proofs.Common.{arith}
use Rattle.llb_work.proofs.BoardContinuations.{goes_nowhere, goes_further}
use Rattle.llb_work.proofs.IdleWorkers.{cancel_rests, idle_up, all_idle}
use Rattle.llb_work.proofs.WorkerCalls.{cancel_goes}
use Rattle.llb_work.proofs.single_thread_driver.cancel_all.Goals as goal

pub loop-w-init : goal.loop-w-init
loop-w-init c = record { goes = goes_nowhere c.args.board.now; few = c.has_workers.ensures.few; idle = λ i low. absurd (omega (arith, low)) }

pub loop-w-preserved : goal.loop-w-preserved
loop-w-preserved c =
    let b = c.loop-w.board in
    let n = c.cancel.new.self in
    let one = cancel_rests b n c.loop-w.w c.cancel.result c.cancel.ensures.gives c.cancel.ensures.err in
    let before = c.loop-w.invariant in
    record {
      goes = goes_further c.args.board.now b n before.goes (cancel_goes b n c.loop-w.w c.cancel.result c.cancel.ensures.gives c.cancel.ensures.err);
      few = omega (arith, before.few, one.count);
      idle = idle_up b.state n.state c.loop-w.w before.idle one.others one.own;
    }

pub returns-clause-goes : goal.returns-clause-goes
returns-clause-goes c = c.loop-w.invariant.goes

pub returns-clause-idle : goal.returns-clause-idle
returns-clause-idle c =
    let done = c.loop-w.invariant in
    all_idle c.loop-w.board.state c.loop-w.w (omega (arith, done.few, c.loop-w-test.false)) done.idle
