-- The last digit of a number comes after those of a tenth of it.
use Rattle.std.proofs.Common.{◌≡◌, ◌++◌, ◌/◌, ◌%◌, ◌≤◌, ◌<◌, ◌^◌, ℕ, List, Result, Ok, Err, sym, ap, ◌∙◌, arith, append_assoc}
use Rattle.std.proofs.lemmas.Fmt.{decimal_digit, decimal_step}
use Rattle.std.specs.Result.{OnOk}
use Rattle.std.specs.Fmt.{decimal}
use Rattle.std.specs.declared.alloc.AllocError.{AllocError}
use Rattle.llb_treetext.proofs.line.+push_number.Goals as goal

tenth : (n : ℕ) → 10 ≤ n → n < 2 ^ 64 → decimal (n / 10) ++ decimal (n % 10) ≡ decimal n
tenth n large small = ap (λ d. decimal (n / 10) ++ d) (decimal_digit (n % 10) (omega arith)) ∙ sym (decimal_step n large small)

pushed : (r : Result (Unit {0}) AllocError) (old mid new : List ℕ) (n : ℕ) → 10 ≤ n → n < 2 ^ 64 → mid ≡ old ++ decimal (n / 10)
    → OnOk r (new ≡ mid ++ decimal (n % 10)) → OnOk r (new ≡ old ++ decimal n)
pushed (Err e) old mid new n large small first last = tt
pushed (Ok u) old mid new n large small first last =
    last ∙ ap (λ m. m ++ decimal (n % 10)) first ∙ append_assoc old (decimal (n / 10)) (decimal (n % 10)) ∙ ap (λ d. old ++ d) (tenth n large small)

pub returns : goal.returns
returns t c = pushed c.push_digit-2.result _ _ _ c.args.number (omega (arith, c.if-number-lt10.false)) (omega (arith, c.ranges.number.fits))
    c.in_ok-push_number.ensures c.push_digit-2.ensures
