use Rattle.std.proofs.Common.{◌++◌, length, refl, sym, ap, string_bytes, arith, ◌∙◌}
use Rattle.std.proofs.lemmas.Option.{slice_get_read}
use Rattle.std.proofs.lemmas.List.FromFn.{length-enumerate_from}
use Rattle.llb_commands.specs.PlanText.{mark_text}
use Rattle.llb_commands.proofs.TextsInMemory.{last_line, next_line, ok_of}
use Rattle.llb_commands.proofs.plan_text.push_numbers.Goals as goal

pub loop-number-preserved : goal.loop-number-preserved
loop-number-preserved c =
    let actions = c.args.actions.now in
    let at = c.loop-number.number in
    let action = c.index-actions-number.result in
    next_line mark_text actions at action (string_bytes c.args.line.now) (string_bytes c.loop-number.line) (string_bytes c.push_mark.new.line)
    (slice_get_read actions (length actions) at action refl c.loop-number-test.true c.index-actions-number.is)
    c.loop-number.invariant c.in_ok-push_mark.ensures

pub returns : goal.returns
returns c =
    let actions = c.args.actions.now in
    ap ok_of (sym (c.loop-number.invariant ∙ ap (λ ys. string_bytes c.args.line.now ++ ys) (last_line mark_text actions c.loop-number.number
    (omega (arith, length-enumerate_from 0 actions, c.loop-number-test.false)))))
