use Rattle.std.proofs.Common.{arith, ◌∙◌}
use Rattle.llb_work.proofs.BoardContinuations.{after_more, no_shorter}
use Rattle.llb_work.proofs.WorkersAndVertices.{claimed_at_first}
use Rattle.llb_work.proofs.WorkerCalls.{claim_works, claim_here}
use Rattle.llb_work.proofs.shared_board.SharedBoard.claim.Goals as goal

pub invariant_of-self : goal.invariant_of-self
invariant_of-self g c =
    let old = c.args.self.now in
    let b = old.board in
    let n = c.claim.new.self in
    let works = claim_works b n c.args.w c.args.v c.claim.result c.claim.ensures.gives c.claim.ensures.err in
    record {
      kept = old.kept;
      after = after_more g.S.Gated.start b n old.after works.goes;
      marks = old.marks;
      booked = old.booked;
      within = omega (arith, no_shorter b n works.goes, old.within);
      stops = old.stops;
      uncancelled = λ none. works.uncancelled ∙ old.uncancelled none;
    }

pub returns : goal.returns
returns g c =
    let old = c.args.self.now in
    claimed_at_first g.S.Gated.start old.board c.args.w c.args.v c.claim.result old.after
    (claim_here old.board c.claim.new.self c.args.w c.args.v c.claim.result c.begun_are_plain.ensures.claims c.claim.ensures.gives)
