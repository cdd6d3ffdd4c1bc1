-- Sums over lists, after a change at one place, and of one place alone.
use Rattle.std.proofs.Common.{◌≡◌, ◌≢◌, ℕ, zero, suc, ◌+◌, ◌<◌, List, [], ◌∷◌, length, set, refl, sym, ap, arith}
use Rattle.std.specs.Prelude.{sum_by}
use Rattle.std.proofs.lemmas.List.Sums.{sum_by-cons}
use mathlib.Core.Option.{some, some-injective, some-ne-none}
use lib.ListN.{get_elem?}

-- a place where there is something is within the list
pub within : {X : Type 0} (xs : List X) (i : ℕ) (v : X) → get_elem? xs i ≡ some v → i < length xs
within [] i v e = absurd (some-ne-none v (sym e))
within (x ∷ xs) zero v e = omega arith
within (x ∷ xs) (suc i) v e = omega (arith, within xs i v e)

-- a sum where w is put into the place of v
pub sum_at : {X : Type 0} (f : X → ℕ) (xs : List X) (i : ℕ) (v w : X) → get_elem? xs i ≡ some v → sum_by f (set xs i w) + f v ≡ sum_by f xs + f w
sum_at f [] i v w e = absurd (some-ne-none v (sym e))
sum_at f (x ∷ xs) zero v w e = omega (arith, sum_by-cons f w xs, sum_by-cons f x xs, ap f (some-injective x v e))
sum_at f (x ∷ xs) (suc i) v w e = omega (arith, sum_by-cons f x (set xs i w), sum_by-cons f x xs, sum_at f xs i v w e)

sum_none : {X : Type 0} (f : X → ℕ) (ys : List X) → ((j : ℕ) (u : X) → get_elem? ys j ≡ some u → f u ≡ 0) → sum_by f ys ≡ 0
sum_none f [] h = refl
sum_none f (y ∷ ys) h = omega (arith, sum_by-cons f y ys, h 0 y refl, sum_none f ys (λ j u at. h (suc j) u at))

-- where f is nothing of all others, the sum is f of the one
pub sum_only : {X : Type 0} (f : X → ℕ) (xs : List X) (i : ℕ) (v : X) → get_elem? xs i ≡ some v
    → ((j : ℕ) (u : X) → j ≢ i → get_elem? xs j ≡ some u → f u ≡ 0) → sum_by f xs ≡ f v
sum_only f [] i v e none = absurd (some-ne-none v (sym e))
sum_only f (x ∷ xs) zero v e none =
    let others = sum_none f xs (λ j u at. none (suc j) u (λ p. omega arith) at) in
    omega (arith, sum_by-cons f x xs, ap f (some-injective x v e), others)
sum_only f (x ∷ xs) (suc i) v e none =
    let others = sum_only f xs i v e (λ j u ne at. none (suc j) u (λ p. ne (omega arith)) at) in
    omega (arith, sum_by-cons f x xs, none 0 x (λ p. omega arith) refl, others)

-- a list's length, as a sum
pub sum_ones : (xs : List ℕ) → sum_by (λ _. 1) xs ≡ length xs
sum_ones [] = refl
sum_ones (x ∷ xs) = omega (arith, sum_by-cons (λ (_ : ℕ). 1) x xs, sum_ones xs)
