-- Two lists of one length that have equal items at each place are equal.
use Rattle.std.proofs.Common.{◌≡◌, ℕ, zero, suc, ◌<◌, List, [], ◌∷◌, length, slice_get, unwrap_or, refl, ap, arith}

-- used for maps in insertion order, which are compared place by place
pub all_same : {A : Type 0} → (xs ys : List A) → length xs ≡ length ys → ((k : ℕ) → k < length xs → slice_get xs k ≡ slice_get ys k) → xs ≡ ys
all_same [] [] count each = refl
all_same [] (y ∷ ys) count each = absurd (omega (arith, count))
all_same (x ∷ xs) [] count each = absurd (omega (arith, count))
all_same (x ∷ xs) (y ∷ ys) count each =
    let head : x ≡ y = ap (λ o. unwrap_or o x) (each 0 (omega arith)) in
    let tail = all_same xs ys (omega (arith, count)) (λ k below. each (suc k) (omega (arith, below))) in
    λ i. head i ∷ tail i
