-- A number without a sign that is below a limit.
use Rattle.std.proofs.Common.{◌≡◌, ℕ, ◌-◌, ◌^◌, ◌<◌, ◌≤◌, cond, inl, inr, List, [], ◌∷◌, length, get_or, Option, Some}
use Rattle.std.proofs.Common.{None, sym, ap, ◌∙◌, arith}
use Rattle.std.specs.Option.{option_map}
use Rattle.std.proofs.lemmas.Bool.{cases_lt, lt-ltb, ne_eqb}
use Rattle.llb_wire.specs.TextComparison.{then_in, where_so}
use Rattle.llb_wire.specs.Decimal.{capped, magnitude, below}
use Rattle.llb_wire.proofs.CappedNumbers.{capped_low, capped_high}
use Rattle.llb_asm.specs.FieldValueTexts.{signed_in, negated}

-- a number that is held and below a limit is the number of a text without a sign
pub signed_plain : (limit n : ℕ) (text : List ℕ) → limit ≤ 2 ^ 63 → (1 ≤ length text → get_or text 0 0 ≡ 45 → ⊥)
    → Some n ≡ option_map capped (magnitude text) → n < limit → Some n ≡ signed_in limit text
unfolding magnitude signed_in
signed_plain limit n [] small plain is lt = absurd cc
signed_plain limit n (b ∷ text) small plain is lt =
    go (magnitude (b ∷ text)) is
    ∙ sym (ap (λ t. cond t (then_in (magnitude text) (negated limit)) (then_in (magnitude (b ∷ text)) (below limit))) (ne_eqb b 45 (plain (omega arith))))
  where
    go : (o : Option ℕ) → Some n ≡ option_map capped o → Some n ≡ then_in o (below limit)
    go None is = absurd cc
    go (Some v) is = elim (cases_lt v (2 ^ 64)) [
      | inl low ↦
          let same : n ≡ v = let e : n ≡ capped v = cc in e ∙ capped_low v low in
          ap (λ k. Some k) same ∙ sym (ap (λ t. where_so t v) (lt-ltb v limit (omega arith)))
      | inr high ↦ let e : n ≡ capped v = cc in absurd (omega (arith, e, capped_high v high))
    ]
