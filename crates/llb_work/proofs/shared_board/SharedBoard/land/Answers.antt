use Rattle.std.proofs.Common.{arith, ◌∙◌}
use Rattle.llb_model.specs.Table.{HasSettled}
use Rattle.llb_work.proofs.BoardContinuations.{after_more, no_shorter}
use Rattle.llb_work.proofs.WorkerCalls.{land_works, landed_works}
use Rattle.llb_work.proofs.shared_board.SharedBoard.land.Goals as goal

pub invariant_of-self : goal.invariant_of-self
invariant_of-self g c =
    let old = c.args.self.now in
    let b = old.board in
    let n = c.land_known.new.self in
    let works = landed_works b n c.args.w c.args.outcome (HasSettled c.land_known.result) c.land_known.ensures.gives in
    record {
      kept = old.kept;
      after = after_more g.S.Gated.start b n old.after works.goes;
      marks = old.marks;
      booked = old.booked;
      within = omega (arith, no_shorter b n works.goes, old.within);
      stops = old.stops;
      uncancelled = λ none. works.uncancelled ∙ old.uncancelled none;
    }

pub invariant_of-self-2 : goal.invariant_of-self-2
invariant_of-self-2 g c =
    let old = c.args.self.now in
    let b = old.board in
    let n = c.land.new.self in
    let works = land_works b n c.args.w c.args.outcome c.land.result c.land.ensures.gives c.land.ensures.err in
    record {
      kept = old.kept;
      after = after_more g.S.Gated.start b n old.after works.goes;
      marks = old.marks;
      booked = old.booked;
      within = omega (arith, no_shorter b n works.goes, old.within);
      stops = old.stops;
      uncancelled = λ none. works.uncancelled ∙ old.uncancelled none;
    }
