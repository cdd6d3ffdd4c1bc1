-- A worker that does not wait.
use Rattle.std.proofs.Common.{◌≡◌, ℕ, zero, suc, ◌<◌, Bool, true, false, List, [], ◌∷◌, length, arith}
use Rattle.std.specs.Prelude.{slice_set}
use Rattle.llb_work.specs.Waits.{all_wait}

-- where one worker does not wait, not all wait
pub one_awake : (waits : List Bool) (w : ℕ) → w < length waits → all_wait (slice_set waits w false) ≡ true → ⊥
one_awake [] w low all = omega (arith, low)
one_awake (x ∷ xs) zero low all = cc
one_awake (true ∷ xs) (suc w) low all = one_awake xs w (omega (arith, low)) all
one_awake (false ∷ xs) (suc w) low all = cc
