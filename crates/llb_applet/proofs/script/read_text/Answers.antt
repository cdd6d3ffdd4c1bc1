use Rattle.std.proofs.Common.{◌≡◌, ◌+◌, length, drop, sym, ap, ◌∙◌, lit<, arith}
use Rattle.std.specs.List.{flat_map}
use Rattle.std.proofs.lemmas.Iterator.{YieldsList}
use Rattle.std.proofs.lemmas.Iterator.Splits.{YieldsList-from_str_split}
use Rattle.std.proofs.lemmas.Iterator.Consumers.{YieldsList-turn, YieldsList-end}
use Rattle.std.proofs.lemmas.List.{length_push, drop_all}
use Rattle.std.proofs.lemmas.Result.{err_from_is_err_and}
use Rattle.std.specs.Str.Pattern.{FindsChar}
use Rattle.std.specs.Str.Iter.{split_steps, split_text, split_has_more, split_pattern}
use Rattle.llb_applet.specs.declared.joined_commands.Join.TheVariants.{Then}
use Rattle.llb_applet.specs.Words.{parts_of, calls_from, calls_of}
use Rattle.llb_applet.specs.Scripts.{commands_of}
use Rattle.llb_applet.specs.CallReading.{some_word, ahead, behind, with_call}
use Rattle.llb_applet.proofs.FirstBadPosition.{at_drop}
use Rattle.llb_applet.proofs.CallWordGathering.{calls_in, behind_none, ahead_last}
use Rattle.llb_applet.proofs.script.read_text.Goals as goal
use Rattle.llb_applet.proofs.script.read_text.Goals.{After-into_iter-part-iterator, In-None}

-- the loop visits the parts of the text
goes_over : (c : After-into_iter-part-iterator) → YieldsList (split_steps FindsChar (λ a b. b ≡ a))
    (λ x. x.now) c.into_iter-part-iterator.result (parts_of c.args.text.now)
goes_over c =
    let e = c.split-part-items.ensures in
    let same = c.into_iter-part-iterator.ensures.into_iter_gives in
    YieldsList-from_str_split 32 c.args.text.now (lit< tt) (ap split_text same ∙ e.text) (ap split_has_more same ∙ e.has_more)
    (ap split_pattern same ∙ e.pattern)

pub loop-part-init : goal.loop-part-init
loop-part-init c =
    let left = flat_map some_word (parts_of c.args.text.now) in
    (λ i. behind (c.new.ensures.items i) (commands_of (length (c.new.ensures.items i)) (calls_from left Then (c.new-2.ensures.items i))))
    ∙ behind_none _
    ∙ ap (commands_of 0) (calls_in c.args.text.now)

pub loop-part-preserved : goal.loop-part-preserved
loop-part-preserved c =
    let parts = parts_of c.args.text.now in
    let n = length c.loop-part.yielded in
    let part = c.in-Some.part.now in
    let t = YieldsList-turn (goes_over (goal.at.loop-part-preserved c).After-into_iter-part-iterator) c.loop-part.yielded _
    c.loop-part.yielded_by _ _ c.in-Some.part c.in-Some.is c.next.ensures.steps in
    let here = ap (flat_map some_word) (at_drop parts n part t.0 t.1) in
    let more = length_push c.loop-part.yielded c.in-Some.part in
    ap (λ m. ahead c.take.new.self (flat_map some_word (drop m parts))) more
    ∙ sym (c.in_ok-take.ensures (flat_map some_word (drop (n + 1) parts)))
    ∙ ap (ahead c.loop-part.reading) (sym here)
    ∙ c.loop-part.invariant

pub returns-in_err-take : goal.returns-in_err-take
returns-in_err-take c =
    let parts = parts_of c.args.text.now in
    let n = length c.loop-part.yielded in
    let part = c.in-Some.part.now in
    let t = YieldsList-turn (goes_over (goal.at.returns-in_err-take c).After-into_iter-part-iterator) c.loop-part.yielded _
    c.loop-part.yielded_by _ _ c.in-Some.part c.in-Some.is c.next.ensures.steps in
    let here = ap (flat_map some_word) (at_drop parts n part t.0 t.1) in
    let p = err_from_is_err_and c.from_residual.result c.from_residual.ensures.1 in
    rw (p.1, p.2) (λ known.
    sym c.loop-part.invariant
    ∙ ap (ahead c.loop-part.reading) here
    ∙ c.in_err-take.ensures (flat_map some_word (drop (n + 1) parts)) known)

-- after the last part, the commands so far and the command of the current call are the script of the text
ends : (c : In-None) → YieldsList (split_steps FindsChar (λ a b. b ≡ a)) (λ x. x.now) c.into_iter-part-iterator.result
    (parts_of c.args.text.now) → commands_of 0 (calls_of c.args.text.now) ≡ with_call c.loop-part.reading
ends c over =
    let parts = parts_of c.args.text.now in
    let t = YieldsList-end over c.loop-part.yielded _ c.loop-part.yielded_by _ _ c.in-None.is c.next.ensures.steps in
    sym c.loop-part.invariant
    ∙ ap (λ ps. ahead c.loop-part.reading (flat_map some_word ps)) (drop_all (length c.loop-part.yielded) parts (omega (arith, t.1)))
    ∙ ahead_last c.loop-part.reading

pub returns-in_err-end_call : goal.returns-in_err-end_call
returns-in_err-end_call c =
    let p = err_from_is_err_and c.from_residual-in_err-end_call.result c.from_residual-in_err-end_call.ensures.1 in
    rw (p.1, p.2) (λ known. ends (goal.at.returns-in_err-end_call c).In-None
    (goes_over (goal.at.returns-in_err-end_call c).After-into_iter-part-iterator) ∙ c.in_err-end_call.ensures.gives known)

pub returns : goal.returns
returns c = ends (goal.at.returns c).In-None (goes_over (goal.at.returns c).After-into_iter-part-iterator) ∙ c.in_ok-end_call.ensures.gives
