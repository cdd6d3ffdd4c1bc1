use Rattle.std.proofs.Common.{◌≡◌, ◌+◌, [], length, drop, refl, sym, ap, ◌∙◌, subst, lit<, arith}
use Rattle.std.specs.List.{flat_map}
use Rattle.std.proofs.lemmas.Iterator.{YieldsList}
use Rattle.std.proofs.lemmas.Iterator.Splits.{YieldsList-from_str_split}
use Rattle.std.proofs.lemmas.Iterator.Consumers.{YieldsList-turn, YieldsList-end}
use Rattle.std.proofs.lemmas.List.{length_push, drop_all}
use Rattle.std.proofs.lemmas.Result.{err_from_is_err_and}
use Rattle.std.specs.Str.Pattern.{FindsChar}
use Rattle.std.specs.Str.Iter.{split_steps, split_text, split_has_more, split_pattern}
use Rattle.llb_applet.specs.Words.{parts_of}
use Rattle.llb_applet.specs.Scripts.{commands_of}
use Rattle.llb_applet.specs.CallReading.{some_word, judged, verdict, Refuses}
use Rattle.llb_applet.proofs.FirstBadPosition.{at_drop}
use Rattle.llb_applet.proofs.CallWordGathering.{calls_in, refuses_last, gives_last, memory_last}
use Rattle.llb_applet.proofs.call.judge_text.Goals as goal
use Rattle.llb_applet.proofs.call.judge_text.Goals.{After-into_iter-part-iterator}

-- the loop visits the parts of the text
goes_over : (c : After-into_iter-part-iterator) → YieldsList (split_steps FindsChar (λ a b. b ≡ a))
    (λ x. x.now) c.into_iter-part-iterator.result (parts_of c.args.text.now)
goes_over c =
    let e = c.split-part-items.ensures in
    let same = c.into_iter-part-iterator.ensures.into_iter_gives in
    YieldsList-from_str_split 32 c.args.text.now (lit< tt) (ap split_text same ∙ e.text) (ap split_has_more same ∙ e.has_more)
    (ap split_pattern same ∙ e.pattern)

pub loop-part-init : goal.loop-part-init
loop-part-init c = record {
  room = omega arith;
  judges = ([], record { counted = refl; named = refl; option = refl }, ap (λ calls. verdict (commands_of 0 calls)) (calls_in c.args.text.now));
}

pub loop-part-preserved : goal.loop-part-preserved
loop-part-preserved c =
    let parts = parts_of c.args.text.now in
    let n = length c.loop-part.yielded in
    let part = c.in-Some.part.now in
    let t = YieldsList-turn (goes_over (goal.at.loop-part-preserved c).After-into_iter-part-iterator) c.loop-part.yielded _
    c.loop-part.yielded_by _ _ c.in-Some.part c.in-Some.is c.next.ensures.steps in
    let here = ap (flat_map some_word) (at_drop parts n part t.0 t.1) in
    let (call, begun, so_far) = c.loop-part.invariant.judges in
    let (next, next_begun, step) = c.in_ok-take.ensures.judges call begun in
    let more = length_push c.loop-part.yielded c.in-Some.part in
    record {
      room = omega (arith, more, c.in_ok-take.ensures.room, c.loop-part.invariant.room);
      judges = (
        next,
        next_begun,
        ap (λ m. judged c.take.new.self.number next (flat_map some_word (drop m parts))) more
            ∙ sym (step (flat_map some_word (drop (n + 1) parts)))
            ∙ ap (judged c.loop-part.begun.number call) (sym here)
            ∙ so_far,
      );
    }

pub returns-in_err-take-clause-gives : goal.returns-in_err-take-clause-gives
returns-in_err-take-clause-gives c =
    let parts = parts_of c.args.text.now in
    let n = length c.loop-part.yielded in
    let t = YieldsList-turn (goes_over (goal.at.returns-in_err-take-clause-gives c).After-into_iter-part-iterator) c.loop-part.yielded _
    c.loop-part.yielded_by _ _ c.in-Some.part c.in-Some.is c.next.ensures.steps in
    let here = ap (flat_map some_word) (at_drop parts n c.in-Some.part.now t.0 t.1) in
    let (call, begun, so_far) = c.loop-part.invariant.judges in
    let refuses = subst (Refuses c.in_err-take.field-0.0) (ap (judged c.loop-part.begun.number call) (sym here) ∙ so_far)
    (c.in_err-take.ensures.judges call begun (flat_map some_word (drop (n + 1) parts))) in
    let p = err_from_is_err_and c.from_residual.result c.from_residual.ensures.1 in
    rw (p.1, p.2) (refuses.known)

pub returns-in_err-take-clause-last : goal.returns-in_err-take-clause-last
returns-in_err-take-clause-last c =
    let parts = parts_of c.args.text.now in
    let n = length c.loop-part.yielded in
    let t = YieldsList-turn (goes_over (goal.at.returns-in_err-take-clause-last c).After-into_iter-part-iterator) c.loop-part.yielded _
    c.loop-part.yielded_by _ _ c.in-Some.part c.in-Some.is c.next.ensures.steps in
    let here = ap (flat_map some_word) (at_drop parts n c.in-Some.part.now t.0 t.1) in
    let (call, begun, so_far) = c.loop-part.invariant.judges in
    let refuses = subst (Refuses c.in_err-take.field-0.0) (ap (judged c.loop-part.begun.number call) (sym here) ∙ so_far)
    (c.in_err-take.ensures.judges call begun (flat_map some_word (drop (n + 1) parts))) in
    let p = err_from_is_err_and c.from_residual.result c.from_residual.ensures.1 in
    rw (p.1, p.2) (refuses_last _ _ refuses)

pub returns-clause-gives : goal.returns-clause-gives
returns-clause-gives c =
    let parts = parts_of c.args.text.now in
    let t = YieldsList-end (goes_over (goal.at.returns-clause-gives c).After-into_iter-part-iterator) c.loop-part.yielded _
    c.loop-part.yielded_by _ _ c.in-None.is c.next.ensures.steps in
    let (call, begun, so_far) = c.loop-part.invariant.judges in
    let ends = ap (λ ps. judged c.loop-part.begun.number call (flat_map some_word ps))
    (sym (drop_all (length c.loop-part.yielded) parts (omega (arith, t.1)))) in
    gives_last c.loop-part.begun.number call _ (ends ∙ so_far) c.judge.result (c.judge.ensures call begun)

pub returns-clause-last : goal.returns-clause-last
returns-clause-last c =
    let parts = parts_of c.args.text.now in
    let t = YieldsList-end (goes_over (goal.at.returns-clause-last c).After-into_iter-part-iterator) c.loop-part.yielded _
    c.loop-part.yielded_by _ _ c.in-None.is c.next.ensures.steps in
    let (call, begun, so_far) = c.loop-part.invariant.judges in
    let ends = ap (λ ps. judged c.loop-part.begun.number call (flat_map some_word ps))
    (sym (drop_all (length c.loop-part.yielded) parts (omega (arith, t.1)))) in
    memory_last c.loop-part.begun.number call _ (ends ∙ so_far) c.judge.result (c.judge.ensures call begun)
