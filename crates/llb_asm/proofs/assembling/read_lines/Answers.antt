use Rattle.std.proofs.Common.{◌≡◌, ◌+◌, length, Ok, Err, true, false, sym, ap, subst, ◌∙◌, rules, tests}
use Rattle.std.proofs.lemmas.Iterator.Splits.{YieldsList-from_slice_split}
use Rattle.std.proofs.lemmas.Iterator.Consumers.{YieldsList-turn, YieldsList-end}
use Rattle.std.proofs.lemmas.List.{length_push}
use Rattle.std.specs.Slice.Iter.{split_rest, split_done, split_callee}
use Rattle.llb_asm.specs.declared.fault.AsmFault.{AsmFault}
use Rattle.llb_asm.specs.ItemLines.{is_dropped, stripped, kept}
use Rattle.llb_asm.specs.LineReader.{run_from, between, progress_of, step_of, progresses, GivesEntries}
use Rattle.llb_asm.proofs.RemainingLines.{IsNext, pieces, kept_behind, all_kept, is_left_out, is_taken, none_left, goes_on, stops, ends, finish_open}
use Rattle.llb_asm.proofs.RemainingLines.{finish_whole}
use Rattle.llb_asm.proofs.RemainingLines.{gives_fault}
use Rattle.llb_asm.proofs.assembling.read_lines.Goals as goal
use Rattle.llb_asm.proofs.assembling.read_lines.Goals.{In-Some, In-None}

-- a turn of the loop has the next line of the text
next_line : (c : In-Some) → IsNext c.args.text.now (length c.loop-line.yielded) c.in-Some.line.now
next_line c =
    let e = c.split-line-items.ensures in
    let same = c.into_iter-line-iterator.ensures.into_iter_gives in
    let yields = YieldsList-from_slice_split _ _ c.args.text.now (ap split_rest same ∙ e.rest) (ap split_done same ∙ e.done) (ap split_callee same
    ∙ e.closure) (λ x r q k. search (rules, tests)) in
    let t = YieldsList-turn yields c.loop-line.yielded _ c.loop-line.yielded_by _ _ c.in-Some.line c.in-Some.is c.next.ensures.steps in
    record { inside = t.0; same = t.1 }

-- at the end the loop had all of them
all_had : (c : In-None) → length c.loop-line.yielded ≡ length (pieces c.args.text.now)
all_had c =
    let e = c.split-line-items.ensures in
    let same = c.into_iter-line-iterator.ensures.into_iter_gives in
    let yields = YieldsList-from_slice_split _ _ c.args.text.now (ap split_rest same ∙ e.rest) (ap split_done same ∙ e.done) (ap split_callee same
    ∙ e.closure) (λ x r q k. search (rules, tests)) in
    (YieldsList-end yields c.loop-line.yielded _ c.loop-line.yielded_by _ _ c.in-None.is c.next.ensures.steps).1

pub loop-line-preserved : goal.loop-line-preserved
loop-line-preserved c =
    let p = progress_of c.loop-line.earlier c.loop-line.current in
    let is = next_line (goal.at.loop-line-preserved c).In-Some in
    let out : is_dropped (stripped c.in-Some.line.now) ≡ true = ap is_dropped (sym c.stripped-line.ensures) ∙ sym c.is_dropped.ensures
    ∙ c.if-not-is_dropped.false in
    let one = length_push c.loop-line.yielded c.in-Some.line in (
      ap (λ n. n + 1) c.loop-line.invariant.0 ∙ sym one,
      c.loop-line.invariant.1 ∙ ap (run_from c.loop-line.last p) (is_left_out c.args.text.now
          (length c.loop-line.yielded) c.in-Some.line.now is out)
          ∙ ap (λ k. run_from c.loop-line.last p (kept_behind k c.args.text.now)) (sym one),
    )

pub loop-line-preserved-in-Ok : goal.loop-line-preserved-in-Ok
loop-line-preserved-in-Ok c =
    let p = progress_of c.loop-line.earlier c.loop-line.current in
    let q = progress_of c.step.new.earlier c.in-Ok.next in
    let is = next_line (goal.at.loop-line-preserved-in-Ok c).In-Some in
    let in_it : is_dropped (stripped c.in-Some.line.now) ≡ false = ap is_dropped (sym c.stripped-line.ensures) ∙ sym c.is_dropped.ensures
    ∙ c.if-not-is_dropped.true in
    let step : step_of p (stripped c.in-Some.line.now) ≡ Ok q =
    ap (step_of p) (sym c.stripped-line.ensures) ∙ sym c.in_ok-refusal.ensures ∙ ap (progresses c.step.new.earlier) c.in-Ok.is in
    let n = length c.loop-line.yielded in
    let one = length_push c.loop-line.yielded c.in-Some.line in
    let count = ap (λ k. k + 1) c.loop-line.invariant.0 in (
      count ∙ sym one,
      c.loop-line.invariant.1 ∙ ap (run_from c.loop-line.last p) (is_taken c.args.text.now n c.in-Some.line.now is in_it)
          ∙ goes_on c.loop-line.last (n + 1) p q (stripped c.in-Some.line.now) (kept_behind
          (n + 1) c.args.text.now) step
          ∙ ap (λ k. run_from k q (kept_behind (n + 1) c.args.text.now)) (sym count)
          ∙ ap (λ k. run_from (c.loop-line.number + 1) q (kept_behind k c.args.text.now)) (sym one),
    )

pub returns-in-Err : goal.returns-in-Err
returns-in-Err c =
    let p = progress_of c.loop-line.earlier c.loop-line.current in
    let is = next_line (goal.at.returns-in-Err c).In-Some in
    let in_it : is_dropped (stripped c.in-Some.line.now) ≡ false = ap is_dropped (sym c.stripped-line.ensures) ∙ sym c.is_dropped.ensures
    ∙ c.if-not-is_dropped.true in
    let step : step_of p (stripped c.in-Some.line.now) ≡ Err c.in-Err.refusal =
    ap (step_of p) (sym c.stripped-line.ensures) ∙ sym c.in_ok-refusal.ensures ∙ ap (progresses c.step.new.earlier) c.in-Err.is in
    let n = length c.loop-line.yielded in
    let count = ap (λ k. k + 1) c.loop-line.invariant.0 in
    subst (λ (f : AsmFault). GivesEntries (Err f) (run_from 0 (between c.args.earlier.now) (kept c.args.text.now))) (sym c.at.ensures)
    (gives_fault (c.loop-line.number + 1) c.in-Err.refusal (run_from 0 (between c.args.earlier.now) (kept c.args.text.now))
    (ap (run_from 0 (between c.args.earlier.now)) (all_kept c.args.text.now) ∙ c.loop-line.invariant.1
    ∙ ap (run_from c.loop-line.last p) (is_taken c.args.text.now n c.in-Some.line.now is in_it)
    ∙ stops c.loop-line.last (n + 1) p c.in-Err.refusal (stripped c.in-Some.line.now) (kept_behind (n + 1) c.args.text.now) step
    ∙ ap (λ k. Err (k, c.in-Err.refusal)) (sym count)))

pub returns-then-is_some : goal.returns-then-is_some
returns-then-is_some c =
    let p = progress_of c.loop-line.earlier c.loop-line.current in
    ap (run_from 0 (between c.args.earlier.now)) (all_kept c.args.text.now) ∙ c.loop-line.invariant.1
    ∙ ap (run_from c.loop-line.last p) (none_left c.args.text.now (length c.loop-line.yielded) (all_had (goal.at.returns-then-is_some c).In-None))
    ∙ ends c.loop-line.last p
    ∙ finish_open c.loop-line.last c.loop-line.earlier c.loop-line.current (sym c.is_some.ensures ∙ c.if-is_some.true)

pub returns : goal.returns
returns c =
    let p = progress_of c.loop-line.earlier c.loop-line.current in
    ap (run_from 0 (between c.args.earlier.now)) (all_kept c.args.text.now) ∙ c.loop-line.invariant.1
    ∙ ap (run_from c.loop-line.last p) (none_left c.args.text.now (length c.loop-line.yielded) (all_had (goal.at.returns c).In-None))
    ∙ ends c.loop-line.last p
    ∙ finish_whole c.loop-line.last c.loop-line.earlier c.loop-line.current (sym c.is_some.ensures ∙ c.if-is_some.false)
