-- What is written for a byte of a string, by cases.
use Rattle.std.proofs.Common.{◌≡◌, ℕ, ◌<◌, ◌≤◌, ◌⊎◌, nat_lt, ◌==◌, ◌||◌, false, cond, inl, inr, List, [], ◌∷◌}
use Rattle.std.proofs.lemmas.Bool.{cond_both, or_cases, or_parts, eqb-true, ltb-true, ltb-false}
use Rattle.hex.specs.Hex.{encode_lower}
use Rattle.llb_asm.specs.FieldValueTexts.{escaped}

-- a fact of each of the three ways to write a byte, with a backslash, as two digits or as it is, is one of what is written
pub escaped_by : (P : List ℕ → Type 0) (b : ℕ) → ((b ≡ 34) ⊎ (b ≡ 92) → P (92 ∷ b ∷ [])) → ((b < 32) ⊎ (b ≡ 127) → P (92 ∷ 120 ∷ encode_lower (b ∷ [])))
    → ((b == 34) ≡ false → (b == 92) ≡ false → 32 ≤ b → P (b ∷ [])) → P (escaped b)
escaped_by P b itself control plain =
    cond_both ((b == 34) || (b == 92)) (92 ∷ b ∷ []) (cond (nat_lt b 32 || (b == 127)) (92 ∷ 120 ∷ encode_lower (b ∷ [])) (b ∷ [])) P
    (λ is. itself (elim (or_cases (b == 34) (b == 92) is) [ inl quote ↦ inl (eqb-true b 34 quote) | inr slash ↦ inr (eqb-true b 92 slash) ]))
    (λ other. cond_both (nat_lt b 32 || (b == 127)) (92 ∷ 120 ∷ encode_lower (b ∷ [])) (b ∷ []) P
    (λ is. control (elim (or_cases (nat_lt b 32) (b == 127) is) [ inl below ↦ inl (ltb-true b 32 below) | inr last ↦ inr (eqb-true b 127 last) ]))
    (λ not. plain (or_parts (b == 34) (b == 92) other).0 (or_parts (b == 34) (b == 92) other).1 (ltb-false b 32 (or_parts (nat_lt b 32) (b == 127) not).0)))
