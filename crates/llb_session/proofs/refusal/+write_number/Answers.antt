-- The last digit of a number comes after those of a tenth of it.
use Rattle.std.proofs.Common.{◌≡◌, ◌∙◌, ◌++◌, ◌/◌, ◌%◌, ◌≤◌, ◌<◌, ◌^◌, ℕ, List, sym, ap, subst, arith}
use Rattle.std.proofs.lemmas.Fmt.{decimal_digit, decimal_step}
use Rattle.std.specs.Fmt.{decimal}
use Rattle.std.proofs.lemmas.Result.{err_from_is_err_and}
use Rattle.llb_wire.specs.Sink.{TakesAll}
use Rattle.llb_session.proofs.ConsecutiveTexts.{takes_both, takes_part}
use Rattle.llb_session.proofs.refusal.+write_number.Goals as goal

tenth : (n : ℕ) → 10 ≤ n → n < 2 ^ 64 → decimal (n / 10) ++ decimal (n % 10) ≡ decimal n
tenth n large small = ap (λ d. decimal (n / 10) ++ d) (decimal_digit (n % 10) (omega arith)) ∙ sym (decimal_step n large small)

pub returns-in_err-write_number-clause-takes : goal.returns-in_err-write_number-clause-takes
returns-in_err-write_number-clause-takes g t c =
    let fails = (err_from_is_err_and c.from_residual.result c.from_residual.ensures.1).1 in
    let n = c.args.number in
    subst (λ (text : List ℕ). TakesAll (g.S.Sink.taken c.args.sink.now) (g.S.Sink.taken c.write_number.new.sink) (g.S.Sink.failed c.write_number.new.sink) text
    c.from_residual.result)
    (tenth n (omega (arith, c.if-number-lt10.false)) (omega (arith, c.ranges.number.fits)))
    (takes_part _ _ _ (decimal (n / 10)) (decimal (n % 10)) _ _ c.from_residual.result fails c.in_err-write_number.ensures.takes)

pub returns-clause-takes : goal.returns-clause-takes
returns-clause-takes g t c =
    let n = c.args.number in
    subst (λ (text : List ℕ). TakesAll (g.S.Sink.taken c.args.sink.now) (g.S.Sink.taken c.write_digit-2.new.sink) (g.S.Sink.failed c.write_digit-2.new.sink)
    text c.write_digit-2.result)
    (tenth n (omega (arith, c.if-number-lt10.false)) (omega (arith, c.ranges.number.fits)))
    (takes_both _ _ _ _ (decimal (n / 10)) (decimal (n % 10)) _ c.in_ok-write_number.ensures.takes c.write_digit-2.ensures.takes)
