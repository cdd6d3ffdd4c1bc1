-- The workers' counts, set one after another.
use Rattle.std.proofs.Common.{◌≡◌, ◌≢◌, ℕ, zero, suc, ◌+◌, ◌<◌, ◌≤◌, List, length, set, get_or, refl, ◌∙◌, arith, get_or-set_other}
use Rattle.std.specs.Prelude.{sum, replicate}
use Rattle.std.proofs.lemmas.List.Sums.{sum_by-set}

-- a list of zeros has 0 at each place, and past its end 0 is read too
pub zeros : (n k : ℕ) → get_or (replicate {A = ℕ} n 0) k 0 ≡ 0
zeros zero k = refl
zeros (suc n) zero = refl
zeros (suc n) (suc k) = zeros n k

-- the sum of zeros is 0
pub sum_zeros : (n : ℕ) → sum (replicate {A = ℕ} n 0) ≡ 0
sum_zeros zero = refl
sum_zeros (suc n) = sum_zeros n

-- a number that is set in the place of a 0 is added to the sum
pub sum_more : (made : List ℕ) (at x : ℕ) → at < length made → ((k : ℕ) → at ≤ k → get_or made k 0 ≡ 0) → sum (set made at x) ≡ sum made + x
sum_more made at x low rest = omega (arith, sum_by-set (λ n. n) made at x 0 low, rest at (omega arith))

-- after a number is set, the places after it still have 0
pub rest_more : (made : List ℕ) (at x : ℕ) → ((k : ℕ) → at ≤ k → get_or made k 0 ≡ 0) → (k : ℕ) → at + 1 ≤ k → get_or (set made at x) k 0 ≡ 0
rest_more made at x rest k low = let ne : k ≢ at = omega arith in get_or-set_other made at k x 0 ne ∙ rest k (omega arith)
