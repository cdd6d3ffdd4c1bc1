use Rattle.std.proofs.Common.{◌≡◌, ◌+◌, ◌==◌, ◌<◌, length, drop, refl, sym, ap, ◌∙◌, lit<, arith, filter, cond, Some, None}
use Rattle.std.proofs.lemmas.Iterator.Splits.{YieldsList-from_str_split}
use Rattle.std.proofs.lemmas.Iterator.Consumers.{YieldsList-turn, YieldsList-end}
use Rattle.std.proofs.lemmas.List.{length_push, drop_all}
use Rattle.std.proofs.lemmas.Iterator.{YieldsList}
use Rattle.std.specs.Str.Pattern.{FindsChar}
use Rattle.std.specs.Str.Iter.{split_steps, split_text, split_has_more, split_pattern}
use Rattle.llb_applet.specs.Words.{parts_of, placed, is_word, bad_place, bad_place_of}
use Rattle.llb_applet.proofs.FirstBadPosition.{at_drop, spread, spread-split, bad_here, bad_later}
use Rattle.llb_applet.proofs.first_bad_position.bad_place.Goals as goal
use Rattle.llb_applet.proofs.first_bad_position.bad_place.Goals.{After-into_iter-part-iterator}

-- the loop visits the parts of the text
goes_over : (c : After-into_iter-part-iterator) → YieldsList (split_steps FindsChar (λ a b. b ≡ a))
    (λ x. x.now) c.into_iter-part-iterator.result (parts_of c.args.text.now)
goes_over c =
    let e = c.split-part-items.ensures in
    let same = c.into_iter-part-iterator.ensures.into_iter_gives in
    YieldsList-from_str_split 32 c.args.text.now (lit< tt) (ap split_text same ∙ e.text) (ap split_has_more same ∙ e.has_more)
    (ap split_pattern same ∙ e.pattern)

pub loop-part-init : goal.loop-part-init
loop-part-init c = record { counted = omega (arith, spread-split (λ b. b == 32) c.args.text.now); bad = refl }

pub overflow_add-result : goal.overflow_add-result
overflow_add-result c =
    let parts = parts_of c.args.text.now in
    let n = length c.loop-part.yielded in
    let t = YieldsList-turn (goes_over (goal.at.overflow_add-result c).After-into_iter-part-iterator) c.loop-part.yielded _
    c.loop-part.yielded_by _ _ c.in-Some.part c.in-Some.is c.next.ensures.steps in
    let here = ap spread (at_drop parts n c.in-Some.part.now t.0 t.1) in
    let inside : c.in-Some-bad_in.bad < length c.in-Some.part.now = c.in-Some-bad_in.ensures.inside in
    omega (arith, here, c.loop-part.invariant.counted)

pub returns-in-Some-bad_in : goal.returns-in-Some-bad_in
returns-in-Some-bad_in c =
    let parts = parts_of c.args.text.now in
    let n = length c.loop-part.yielded in
    let part = c.in-Some.part.now in
    let t = YieldsList-turn (goes_over (goal.at.returns-in-Some-bad_in c).After-into_iter-part-iterator) c.loop-part.yielded _
    c.loop-part.yielded_by _ _ c.in-Some.part c.in-Some.is c.next.ensures.steps in
    let here = at_drop parts n part t.0 t.1 in
    sym (bad_here (length c.args.text.now) c.loop-part.called c.loop-part.place part (drop (n + 1) parts) c.in-Some-bad_in.bad
    (sym c.bad_in.ensures.value ∙ c.in-Some-bad_in.is))
    ∙ ap (λ ps. bad_place (length c.args.text.now) c.loop-part.called (filter is_word (placed c.loop-part.place ps))) (sym here)
    ∙ c.loop-part.invariant.bad

pub overflow_add-place-in-loop-part : goal.overflow_add-place-in-loop-part
overflow_add-place-in-loop-part c =
    let parts = parts_of c.args.text.now in
    let n = length c.loop-part.yielded in
    let t = YieldsList-turn (goes_over (goal.at.overflow_add-place-in-loop-part c).After-into_iter-part-iterator) c.loop-part.yielded _
    c.loop-part.yielded_by _ _ c.in-Some.part c.in-Some.is c.next.ensures.steps in
    let here = ap spread (at_drop parts n c.in-Some.part.now t.0 t.1) in
    omega (arith, here, c.loop-part.invariant.counted)

pub loop-part-preserved : goal.loop-part-preserved
loop-part-preserved c =
    let parts = parts_of c.args.text.now in
    let n = length c.loop-part.yielded in
    let part = c.in-Some.part.now in
    let t = YieldsList-turn (goes_over (goal.at.loop-part-preserved c).After-into_iter-part-iterator) c.loop-part.yielded _
    c.loop-part.yielded_by _ _ c.in-Some.part c.in-Some.is c.next.ensures.steps in
    let here = at_drop parts n part t.0 t.1 in
    let counts = ap spread here in
    let next : c.loop-part.place + length part + 1 ≡ c.loop-part.place + (length part + 1) = omega arith in
    let end = length c.args.text.now in
    let counted : c.loop-part.place + (length part + 1) + spread (drop (n + 1) parts) ≡ end + 1 = omega (arith, counts, c.loop-part.invariant.counted) in
    let bad : bad_place end c.called_after-called.result
    (filter is_word (placed (c.loop-part.place + (length part + 1)) (drop (n + 1) parts))) ≡ bad_place_of c.args.text.now =
    ap (λ at. bad_place end c.called_after-called.result (filter is_word (placed at (drop (n + 1) parts)))) (sym next)
    ∙ ap (λ called. bad_place end called (filter is_word (placed (c.loop-part.place + length part + 1) (drop (n + 1) parts)))) c.called_after-called.ensures
    ∙ sym (bad_later end c.loop-part.called c.loop-part.place part (drop (n + 1) parts) (sym c.bad_in.ensures.value ∙ c.in_default.is))
    ∙ ap (λ ps. bad_place end c.loop-part.called (filter is_word (placed c.loop-part.place ps))) (sym here)
    ∙ c.loop-part.invariant.bad in
    let more = length_push c.loop-part.yielded c.in-Some.part in
    record {
      counted = ap (λ m. c.loop-part.place + (length part + 1) + spread (drop m parts)) more ∙ counted;
      bad = ap (λ m. bad_place end c.called_after-called.result (filter is_word (placed (c.loop-part.place + (length part + 1)) (drop m parts)))) more ∙ bad;
    }

pub returns-then-called : goal.returns-then-called
returns-then-called c =
    let parts = parts_of c.args.text.now in
    let end = length c.args.text.now in
    let t = YieldsList-end (goes_over (goal.at.returns-then-called c).After-into_iter-part-iterator) c.loop-part.yielded _
    c.loop-part.yielded_by _ _ c.in-None.is c.next.ensures.steps in
    sym (sym c.loop-part.invariant.bad
    ∙ ap (λ ps. bad_place end c.loop-part.called (filter is_word (placed c.loop-part.place ps)))
    (drop_all (length c.loop-part.yielded) parts (omega (arith, t.1)))
    ∙ ap (λ called. cond called None (Some end)) c.if-called.true)

pub returns-else-called : goal.returns-else-called
returns-else-called c =
    let parts = parts_of c.args.text.now in
    let end = length c.args.text.now in
    let t = YieldsList-end (goes_over (goal.at.returns-else-called c).After-into_iter-part-iterator) c.loop-part.yielded _
    c.loop-part.yielded_by _ _ c.in-None.is c.next.ensures.steps in
    sym (sym c.loop-part.invariant.bad
    ∙ ap (λ ps. bad_place end c.loop-part.called (filter is_word (placed c.loop-part.place ps)))
    (drop_all (length c.loop-part.yielded) parts (omega (arith, t.1)))
    ∙ ap (λ called. cond called None (Some end)) c.if-called.false)
