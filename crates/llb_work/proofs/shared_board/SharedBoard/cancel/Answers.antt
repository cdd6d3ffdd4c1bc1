use Rattle.std.proofs.Common.{arith}
use Rattle.llb_work.proofs.BoardContinuations.{after_more, no_shorter}
use Rattle.llb_work.proofs.CancelFreeEvents.{some_noted}
use Rattle.llb_work.proofs.WorkerCalls.{cancel_goes}
use Rattle.llb_work.proofs.shared_board.SharedBoard.cancel.Goals as goal

pub invariant_of-self : goal.invariant_of-self
invariant_of-self g c =
    let old = c.args.self.now in
    let b = old.board in
    let n = c.cancel.new.self in
    let goes = cancel_goes b n c.args.w c.cancel.result c.cancel.ensures.gives c.cancel.ensures.err in
    record {
      kept = old.kept;
      after = after_more g.S.Gated.start b n old.after goes;
      marks = old.marks;
      booked = old.booked;
      within = omega (arith, no_shorter b n goes, old.within);
      stops = old.stops;
      uncancelled = λ none. absurd (some_noted old.noted c.requires none);
    }
