-- What the whole pass learns from an empty queue, from a take, and at the end.
use Rattle.std.proofs.Common.{◌≡◌, ℕ, ◌≤◌, List, [], ◌∷◌, length, refl, ap, arith}
use Rattle.std.specs.Prelude.{Option, Some, None, MatchOption}
use Rattle.crossbeam_queue.specs.Fifo.{Held}
use Rattle.llb_ready.specs.declared.pass_knowledge.Hand.{Hand}
use Rattle.llb_ready.specs.PassKnowledge.{HasAll}
use Rattle.llb_ready.specs.Conservation.{Knows, GainsTaken, HasTakenAll, HasLeft, times}

no_items : (items : List ℕ) → length items ≡ 0 → items ≡ []
no_items [] e = refl
no_items (x ∷ xs) e = absurd (omega arith)

-- an empty queue
pub taken_all : (v : Hand) → HasAll v → Held 0 (Knows v) → HasTakenAll v
taken_all v all (items, len, knows) =
    let conserved = (knows all).0 in (
      omega (arith, conserved.all, len),
      λ x. omega (arith, conserved.each x, ap (times x) (no_items items len)),
    )

-- what the whole pass learns from a take
pub took : (v w : Hand) (r : Option ℕ) → MatchOption r ((w ≡ v) × Held 0 (Knows v)) (λ x. GainsTaken v x w) → HasAll v
    → MatchOption r (HasTakenAll v) (HasLeft v)
took v w None tells all = taken_all v all tells.1
took v w (Some x) tells all = tells.1 all

-- no number was taken more often than it was put
pub no_more_taken : (v : Hand) (items : List ℕ) → HasAll v → Knows v items → (x : ℕ) → times x v.taken ≤ times x v.put
no_more_taken v items all knows x = omega (arith, (knows all).0.each x)
