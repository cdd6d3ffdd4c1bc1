-- A digit below ten is one byte.
use Rattle.std.proofs.Common.{◌≡◌, ◌++◌, ◌∷◌, ℕ, List, [], Result, Ok, Err, cond, sym, ap, ◌∙◌, arith}
use Rattle.std.proofs.lemmas.Fmt.{decimal_digit}
use Rattle.std.specs.Prelude.{is_ok}
use Rattle.std.specs.Result.{OnOk}
use Rattle.std.specs.Fmt.{decimal}
use Rattle.std.specs.declared.alloc.AllocError.{AllocError}
use Rattle.llb_treetext.proofs.line.push_digit.Goals as goal

pushed : (r : Result (Unit {0}) AllocError) (new old bytes : List ℕ) (digit : ℕ) → new ≡ cond (is_ok r) (old ++ bytes) old → bytes ≡ decimal digit
    → OnOk r (new ≡ old ++ decimal digit)
pushed (Ok u) new old bytes digit is same = is ∙ ap (λ b. old ++ b) same
pushed (Err e) new old bytes digit is same = tt

pub returns : goal.returns
returns c = pushed c.push.result _ _ _ c.args.digit c.push.ensures.bytes
    (c.push.ensures.ascii (omega (arith, c.requires)) ∙ ap (λ b. b ∷ []) (omega (arith, c.requires)) ∙ sym (decimal_digit c.args.digit c.requires))
