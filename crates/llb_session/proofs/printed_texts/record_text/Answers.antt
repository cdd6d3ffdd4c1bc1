use Rattle.std.proofs.Common.{◌≡◌, ◌-◌, ◌∙◌, ap, arith}
use Rattle.llb_session.specs.PrintedTexts.{record_lines}
use Rattle.llb_session.proofs.printed_texts.record_text.Goals as goal

pub returns-clause-lines : goal.returns-clause-lines
returns-clause-lines c =
    let so_far = c.loop-number.invariant in
    let same : c.loop-number.number - c.args.from ≡ c.args.to - c.args.from = omega (arith, so_far.1, c.loop-number-test.false) in
    so_far.0 ∙ ap (record_lines c.args.stepper.now c.args.from) same
