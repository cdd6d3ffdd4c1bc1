use Rattle.std.proofs.Common.{ap, arith, length, refl, sym, ◌∙◌}
use Rattle.llb_model.specs.Outcome.{is_plain}
use Rattle.llb_board.specs.BoardValue.{BoardValue}
use Rattle.llb_work.proofs.BoardContinuations.{after_itself}
use Rattle.llb_work.proofs.CancelFreeEvents.{leaves_cancels}
use Rattle.llb_work.proofs.shared_board.make_shared_board.Goals as goal

pub invariant_of-result : goal.invariant_of-result
invariant_of-result g c = record {
  kept = c.requires.kept;
  after = after_itself g.S.Gated.start c.args.board (sym c.requires.start);
  marks = λ v. c.requires.plain v ∙ ap (λ (b : BoardValue). is_plain b.build v) c.requires.start;
  booked =
      omega (arith, c.requires.empty, c.len-counted.ensures ∙ ap length c.events.ensures.all, ap (λ (b : BoardValue). length b.events) c.requires.start);
  within = omega (arith, c.len-counted.ensures ∙ ap length c.events.ensures.all);
  stops = refl;
  uncancelled = λ none. leaves_cancels g.S.Gated.start c.args.board c.requires.start;
}
