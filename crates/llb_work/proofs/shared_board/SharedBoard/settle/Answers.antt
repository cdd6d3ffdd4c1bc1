use Rattle.std.proofs.Common.{arith, ◌∙◌}
use Rattle.llb_work.proofs.BoardContinuations.{after_more, no_shorter}
use Rattle.llb_work.proofs.WorkerCalls.{settle_works}
use Rattle.llb_work.proofs.shared_board.SharedBoard.settle.Goals as goal

pub invariant_of-self : goal.invariant_of-self
invariant_of-self g c =
    let old = c.args.self.now in
    let b = old.board in
    let n = c.settle.new.self in
    let works = settle_works b n c.args.w c.settle.result c.settle.ensures.gives c.settle.ensures.err in
    record {
      kept = old.kept;
      after = after_more g.S.Gated.start b n old.after works.goes;
      marks = old.marks;
      booked = old.booked;
      within = omega (arith, no_shorter b n works.goes, old.within);
      stops = old.stops;
      uncancelled = λ none. works.uncancelled ∙ old.uncancelled none;
    }
