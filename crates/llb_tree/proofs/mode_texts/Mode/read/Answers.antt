use Rattle.std.proofs.Common.{◌≡◌, ℕ, ◌+◌, ◌*◌, ◌-◌, ◌<◌, ◌≤◌, ◌^◌, ◌&&◌, true, List, ◌∷◌, length, drop, get_or, fold, lit<, arith, ap, ◌∙◌}
use Rattle.std.proofs.Common.{sym, add-one, drop-cons}
use Rattle.std.specs.List.{list_all}
use Rattle.std.proofs.Math.Nat.{pow-le-pow_right, pow-suc}
use Rattle.std.proofs.lemmas.Bool.Decides.{nat_tests}
use Rattle.llb_tree.specs.ModeTexts.{is_octal_digit}
use Rattle.llb_tree.proofs.mode_texts.Mode.read.Goals as goal

-- a mode of at most four digits
small_power : (i : ℕ) → i ≤ 4 → 8 ^ i ≤ 4096
small_power i few = pow-le-pow_right (lit< tt) few

small_digit : (b : ℕ) → is_octal_digit b ≡ true → b - 48 ≤ 7
small_digit b is = grind (arith, nat_tests)

one_more : (i bits d : ℕ) → bits < 8 ^ i → d ≤ 7 → 8 * bits + d < 8 ^ (i + 1)
one_more i bits d small digit = rw (add-one, pow-suc) (omega arith)

at_digit : (xs : List ℕ) (i : ℕ) → i < length xs → drop i xs ≡ get_or xs i 0 ∷ drop (i + 1) xs
at_digit xs i inside = rw add-one (drop-cons xs i 0 inside)

pub overflow_add-bits : goal.overflow_add-bits
overflow_add-bits c =
    let p = small_power c.loop-digit.digit-index (omega arith) in
    let d = small_digit (get_or c.as_bytes-digits.result.now c.loop-digit.digit-index 0) (sym c.is_octal_digit.ensures ∙ c.if-not-is_octal_digit.false) in
    omega (arith, d, p, c.loop-digit.invariant.small, c.from.ensures)

pub invariant_of-result : goal.invariant_of-result
invariant_of-result c =
    let p = small_power c.loop-digit.digit-index (omega arith) in
    let small = c.loop-digit.invariant.small in
    omega arith

pub loop-digit-preserved : goal.loop-digit-preserved
loop-digit-preserved c =
    let digits = c.as_bytes-digits.result.now in
    let i = c.loop-digit.digit-index in
    let is : is_octal_digit (get_or digits i 0) ≡ true = sym c.is_octal_digit.ensures ∙ c.if-not-is_octal_digit.false in
    let d = small_digit (get_or digits i 0) is in
    let here = at_digit digits i c.loop-digit-test.true in
    record {
      small = one_more i c.loop-digit.bits c.from.result c.loop-digit.invariant.small (omega (arith, d, c.from.ensures));
      number =
          ap (λ n. fold (λ n b. 8 * n + (b - 48)) (8 * c.loop-digit.bits + n) (drop (i + 1) digits)) c.from.ensures
          ∙ ap (fold (λ n b. 8 * n + (b - 48)) c.loop-digit.bits) (sym here)
          ∙ c.loop-digit.invariant.number;
      digits =
          ap (λ yes. yes && list_all is_octal_digit (drop (i + 1) digits)) (sym is)
          ∙ ap (list_all is_octal_digit) (sym here)
          ∙ c.loop-digit.invariant.digits;
    }
