-- How a run in threads ends, from what the threads leave.
use Rattle.std.proofs.Common.{◌≡◌, ℕ, ◌+◌, ◌≤◌, Bool, false, List, length, sym, ◌∙◌, arith}
use Rattle.std.proofs.lemmas.Bool.{true≢false}
use Rattle.std.specs.Prelude.{sum, replicate, IsTrue, ◌↔◌}
use Rattle.llb_board.specs.BoardValue.{BoardValue}
use Rattle.llb_work.specs.LockSharingWorkers.{GoesOn, Counts, IsAfter}
use Rattle.llb_work.specs.RunEnds.{Leads}
use Rattle.llb_work.proofs.BoardContinuations.{goes_from, goes_further, goes_nowhere}
use Rattle.llb_work.proofs.WorkerTallies.{sum_zeros}

-- a run in threads, and what was done after it, lead from the given board to the end
pub leads_from : (given found end : BoardValue) (made more : List ℕ) → IsAfter given found → Counts made given found → GoesOn found end
    → sum more + length found.events ≡ sum made + length end.events → Leads given more end
leads_from given found end made more is counts goes adds = (goes_further given found end (goes_from given found is) goes, omega (arith, counts, adds))

-- a run in which nothing was done leads from the board to itself
pub leads_nowhere : (b : BoardValue) → Leads b (replicate 64 0) b
leads_nowhere b = (goes_nowhere b, omega (arith, sum_zeros 64))

-- the number of events that were made is at most the length of the record
pub made_within : (made : List ℕ) (start found : BoardValue) → Counts made start found → sum made ≤ length found.events
made_within made start found counts = omega (arith, counts)

-- two copies of the given board are not found to differ
pub never_foreign : (same : Bool) (start outside given : BoardValue) → same ≡ false → (IsTrue same ↔ (start ≡ outside)) → outside ≡ given → start ≡ given → ⊥
never_foreign same start outside given differ iff copy kept = true≢false (sym (iff.1 (kept ∙ sym copy)) ∙ differ)
