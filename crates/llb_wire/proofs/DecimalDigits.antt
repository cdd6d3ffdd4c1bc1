-- Decimal digits as a 64-bit number holds them, one more at a time.
use Rattle.std.proofs.Common.{◌≡◌, ℕ, ◌+◌, ◌-◌, ◌*◌, ◌^◌, ◌<◌, nat_le, true, inl, inr, List, length, get_or, take}
use Rattle.std.proofs.Common.{sym, ap, ◌∙◌, arith}
use Rattle.std.specs.List.{list_all}
use Rattle.std.specs.Char.{digit_value}
use Rattle.std.specs.Str.Parse.{digits_value}
use Rattle.std.proofs.lemmas.Bool.{cases_lt, and_parts, and_from, leb-true}
use Rattle.std.proofs.lemmas.List.Folds.{list_all_more}
use Rattle.std.proofs.lemmas.Int.Digits.{digits_value_more}
use Rattle.std.proofs.lemmas.Str.{digit_value_digit}
use Rattle.llb_wire.specs.Decimal.{capped, is_digit}
use Rattle.llb_wire.proofs.CappedNumbers.{capped_low, capped_high}
use Prim.Native.Nat.{min}

capped_more : (v n m d r : ℕ) → n ≡ capped v → m ≡ min (n * 10) (2 ^ 64 - 1) → r ≡ min (m + d) (2 ^ 64 - 1) → r ≡ capped (v * 10 + d)
capped_more v n m d r held times plus = elim (cases_lt v (2 ^ 64)) [
  | inr high ↦
      let before = capped_high v high in
      let after = capped_high (v * 10 + d) (omega arith) in omega arith
  | inl low ↦ elim (cases_lt (v * 10 + d) (2 ^ 64)) [
    | inl less ↦
        let before = capped_low v low in
        let after = capped_low (v * 10 + d) less in omega arith
    | inr more ↦
        let before = capped_low v low in
        let after = capped_high (v * 10 + d) more in omega arith
  ]
]

digit_plus : (b : ℕ) → is_digit b ≡ true → digit_value b + 48 ≡ b
digit_plus b is = let both = and_parts (nat_le 48 b) (nat_le b 57) is in digit_value_digit b (leb-true 48 b both.0, leb-true b 57 both.1)

module _ (text : List ℕ) (i : ℕ) (inside : i < length text) (digit : is_digit (get_or text i 0) ≡ true) where
  -- one byte more is read, and all so far are still digits
  pub digits_more : list_all is_digit (take i text) ≡ true → list_all is_digit (take (i + 1) text) ≡ true
  digits_more all = list_all_more is_digit text i 0 inside ∙ and_from _ _ all digit

  -- ten times the value so far and the digit, each capped at 64 bits, is the capped value of the digits with the new one
  pub value_more : (n m d r : ℕ) → n ≡ capped (digits_value 10 (take i text)) → m ≡ min (n * 10) (2 ^ 64 - 1) → d ≡ get_or text i 0 - 48
      → r ≡ min (m + d) (2 ^ 64 - 1) → r ≡ capped (digits_value 10 (take (i + 1) text))
  value_more n m d r held times is plus =
      let value : digit_value (get_or text i 0) ≡ d = omega (arith, digit_plus (get_or text i 0) digit) in
      capped_more (digits_value 10 (take i text)) n m d r held times plus
      ∙ ap (λ e. capped (digits_value 10 (take i text) * 10 + e)) (sym value)
      ∙ ap capped (sym (digits_value_more 10 text i inside))
