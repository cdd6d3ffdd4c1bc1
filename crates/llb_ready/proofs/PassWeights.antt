-- The weights of passes, which are numbers, read with 0 after the end.
use Rattle.std.proofs.Common.{◌≡◌, ◌≢◌, ℕ, zero, suc, ◌+◌, ◌<◌, ◌≤◌, List, [], ◌∷◌, ◌++◌, length, get_or, refl, ap, arith}
use Rattle.std.specs.Prelude.{sum}
use Rattle.std.proofs.lemmas.List.Sums.{sum_by-cons}

-- each number, twice
abbrev pub doubled : List ℕ → List ℕ
doubled [] = []
doubled (x ∷ xs) = (x + x) ∷ doubled xs

-- weights that are doubled are twice as much together
pub sum-doubled : (xs : List ℕ) → sum (doubled xs) ≡ sum xs + sum xs
sum-doubled [] = refl
sum-doubled (x ∷ xs) = omega (arith, sum_by-cons (λ n. n) (x + x) (doubled xs), sum_by-cons (λ n. n) x xs, sum-doubled xs)

-- weights that are doubled are as many as before
pub length-doubled : (xs : List ℕ) → length (doubled xs) ≡ length xs
length-doubled [] = refl
length-doubled (x ∷ xs) = ap suc (length-doubled xs)

-- at each place, and past the end, a doubled weight is twice the one that was there
pub get_or-doubled : (xs : List ℕ) (i : ℕ) → get_or (doubled xs) i 0 ≡ get_or xs i 0 + get_or xs i 0
get_or-doubled [] i = refl
get_or-doubled (x ∷ xs) zero = refl
get_or-doubled (x ∷ xs) (suc i) = get_or-doubled xs i

-- a place of the first list, in both
pub get_or_first : (xs ys : List ℕ) (i : ℕ) → i < length xs → get_or (xs ++ ys) i 0 ≡ get_or xs i 0
get_or_first [] ys i low = absurd (omega arith)
get_or_first (x ∷ xs) ys zero low = refl
get_or_first (x ∷ xs) ys (suc i) low = get_or_first xs ys i (omega arith)

-- the place of one that was added
pub get_or_last : (xs : List ℕ) (y n : ℕ) → n ≡ length xs → get_or (xs ++ y ∷ []) n 0 ≡ y
get_or_last [] y zero e = refl
get_or_last [] y (suc n) e = absurd (omega arith)
get_or_last (x ∷ xs) y zero e = absurd (omega arith)
get_or_last (x ∷ xs) y (suc n) e = get_or_last xs y n (omega arith)

none : (ws : List ℕ) (j : ℕ) → sum ws ≡ 0 → get_or ws j 0 ≡ 0
none [] j e = refl
none (x ∷ xs) zero e = omega (arith, sum_by-cons (λ n. n) x xs)
none (x ∷ xs) (suc j) e = none xs j (omega (arith, sum_by-cons (λ n. n) x xs))

at_most : (ws : List ℕ) (i : ℕ) → get_or ws i 0 ≤ sum ws
at_most [] i = omega arith
at_most (x ∷ xs) zero = omega (arith, sum_by-cons (λ n. n) x xs)
at_most (x ∷ xs) (suc i) = omega (arith, sum_by-cons (λ n. n) x xs, at_most xs i)

-- where one weight is all, the others are nothing
pub others_none : (ws : List ℕ) (i j : ℕ) → sum ws ≡ get_or ws i 0 → j ≢ i → get_or ws j 0 ≡ 0
others_none [] i j all ne = refl
others_none (x ∷ xs) zero zero all ne = absurd (ne refl)
others_none (x ∷ xs) zero (suc j) all ne = none xs j (omega (arith, sum_by-cons (λ n. n) x xs))
others_none (x ∷ xs) (suc i) zero all ne = omega (arith, sum_by-cons (λ n. n) x xs, at_most xs i)
others_none (x ∷ xs) (suc i) (suc j) all ne =
    let rest : sum xs ≡ get_or xs i 0 = omega (arith, sum_by-cons (λ n. n) x xs, at_most xs i) in
    others_none xs i j rest (λ e. ne (ap suc e))
