-- Workers that run nothing: after a cancel of each, and on a complete board.
use Rattle.std.proofs.Common.{◌≡◌, ℕ, zero, suc, ◌<◌, ◌≤◌, ◌+◌, true, List, [], ◌∷◌, length, Option, Some, None, inl, inr, refl, sym, ap, subst, ◌∙◌, arith}
use Rattle.std.proofs.lemmas.Bool.{cases_lt}
use Rattle.std.specs.Prelude.{slice_get, slice_set, Result, Ok, Err, OnErr}
use Rattle.std.specs.Result.{result_ok}
use Rattle.llb_loader.specs.Graph.{IsGraph}
use Rattle.llb_model.specs.Program.{Build}
use Rattle.llb_model.specs.ConsistentStates.{IsConsistent}
use Rattle.llb_model.specs.State.{State, WorkerStatus, Idle, Runs, Execution, runs}
use Rattle.llb_events.specs.declared.event.Event.TheVariants.{Cancel}
use Rattle.llb_events.specs.declared.event.Cancelled.{Cancelled}
use Rattle.llb_events.specs.declared.refusal.CancelFault.{CancelFault}
use Rattle.llb_events.specs.Faults.{GivesCancel}
use Rattle.llb_model.specs.Table.{Reply, HasCancelled, cancelled, table}
use Rattle.llb_model.specs.Run.{is_complete}
use Rattle.llb_model.proofs.RunCompletion.{complete_rests}
use Rattle.llb_model.proofs.Lists.{inside, get_past, length_set}
use Rattle.llb_board.specs.BoardValue.{BoardValue}
use Rattle.llb_board.specs.EventResults.{cancel_of}
use Rattle.llb_work.specs.SingleThreadDriver.{Takes, IsLeft}
use Rattle.llb_work.specs.LockSharingWorkers.{AreIdle}
use Rattle.llb_work.proofs.DriverEvents.{cancel_takes, cancel_left}

-- ---- a worker that is made idle

idle_at : (ws : List WorkerStatus) (w : ℕ) → runs (slice_get (slice_set ws w Idle) w) ≡ None
idle_at [] zero = refl
idle_at [] (suc w) = refl
idle_at (x ∷ ws) zero = refl
idle_at (x ∷ ws) (suc w) = idle_at ws w

idle_beside : (ws : List WorkerStatus) (w i : ℕ) → runs (slice_get ws i) ≡ None → runs (slice_get (slice_set ws w Idle) i) ≡ None
idle_beside [] w i is = is
idle_beside (x ∷ ws) zero zero is = refl
idle_beside (x ∷ ws) zero (suc i) is = is
idle_beside (x ∷ ws) (suc w) zero is = is
idle_beside (x ∷ ws) (suc w) (suc i) is = idle_beside ws w i is

-- ---- a cancel

-- a cancel that is granted makes its worker idle
workers_after : (s t : State) (w : ℕ) (r : Reply) (o : Option WorkerStatus) → result_ok (cancelled s w o) ≡ Some (t, r)
    → t.workers ≡ slice_set s.workers w Idle
workers_after s t w r None given = absurd cc
workers_after s t w r (Some Idle) given = absurd cc
workers_after s t w r (Some (Runs x)) given = ap (λ (p : State × Reply). p.0.workers) (sym (inside given))

made_idle : (b n : BoardValue) (w : ℕ) → Takes b (Cancel w) n → n.state.workers ≡ slice_set b.state.workers w Idle
unfolding table
made_idle b n w takes = workers_after b.state n.state w takes.reply (slice_get b.state.workers w) takes.given

idle_after : (b n : BoardValue) (w : ℕ) → Takes b (Cancel w) n → runs (slice_get n.state.workers w) ≡ None
idle_after b n w takes = ap (λ (ws : List WorkerStatus). runs (slice_get ws w)) (made_idle b n w takes) ∙ idle_at b.state.workers w

idle_still : (b n : BoardValue) (w : ℕ) → Takes b (Cancel w) n → (i : ℕ) → runs (slice_get b.state.workers i) ≡ None
    → runs (slice_get n.state.workers i) ≡ None
idle_still b n w takes i is = ap (λ (ws : List WorkerStatus). runs (slice_get ws i)) (made_idle b n w takes) ∙ idle_beside b.state.workers w i is

as_many : (b n : BoardValue) (w : ℕ) → Takes b (Cancel w) n → length n.state.workers ≡ length b.state.workers
as_many b n w takes = ap length (made_idle b n w takes) ∙ length_set b.state.workers w Idle

refused_idle : (s : State) (w : ℕ) (o : Option WorkerStatus) → result_ok (cancelled s w o) ≡ None → runs o ≡ None
refused_idle s w None left = refl
refused_idle s w (Some Idle) left = refl
refused_idle s w (Some (Runs x)) left = absurd cc

idle_before : (b : BoardValue) (w : ℕ) → IsLeft b (Cancel w) → runs (slice_get b.state.workers w) ≡ None
unfolding table
idle_before b w left = refused_idle b.state w (slice_get b.state.workers w) left

-- what a cancel leaves: its worker runs nothing, nor does a worker that ran nothing before; and there are as many workers
pub record IsMadeIdle (b n : BoardValue) (w : ℕ) : Type 0 where
  pub own : runs (slice_get n.state.workers w) ≡ None
  pub others : (i : ℕ) → runs (slice_get b.state.workers i) ≡ None → runs (slice_get n.state.workers i) ≡ None
  pub count : length n.state.workers ≡ length b.state.workers

-- after a cancel, whether it was granted or not
pub cancel_rests : (b n : BoardValue) (w : ℕ) (r : Result Cancelled CancelFault) → GivesCancel (λ s. (n, HasCancelled s)) r (cancel_of b w) → OnErr r (n ≡ b)
    → IsMadeIdle b n w
cancel_rests b n w (Ok s) gives err =
    let takes = cancel_takes b n w (Ok s) gives refl in
    record { own = idle_after b n w takes; others = idle_still b n w takes; count = as_many b n w takes }
cancel_rests b n w (Err e) gives err =
    subst (λ x. IsMadeIdle b x w) (sym err) (record { own = idle_before b w (cancel_left b n w (Err e) gives refl); others = λ i is. is; count = refl })

-- ---- all workers

-- the workers below a number, and the one of that number
pub idle_up : (s t : State) (w : ℕ) → ((i : ℕ) → i < w → runs (slice_get s.workers i) ≡ None)
    → ((i : ℕ) → runs (slice_get s.workers i) ≡ None → runs (slice_get t.workers i) ≡ None) → runs (slice_get t.workers w) ≡ None
    → (i : ℕ) → i < w + 1 → runs (slice_get t.workers i) ≡ None
idle_up s t w below still here i low = elim (cases_lt i w) [
  | inl lt ↦ still i (below i lt)
  | inr ge ↦ subst (λ j. runs (slice_get t.workers j) ≡ None) (let same : w ≡ i = omega (arith, low, ge) in same) here
]

-- where all workers have numbers below n, those are all
pub all_idle : (s : State) (n : ℕ) → length s.workers ≤ n → ((i : ℕ) → i < n → runs (slice_get s.workers i) ≡ None) → AreIdle s
all_idle s n few below w = elim (cases_lt w n) [
  | inl lt ↦ below w lt
  | inr ge ↦ ap runs (get_past s.workers w (omega (arith, few, ge)))
]

idle_if : (o : Option WorkerStatus) → ((x : Execution) → o ≡ Some (Runs x) → ⊥) → runs o ≡ None
idle_if None none = refl
idle_if (Some Idle) none = refl
idle_if (Some (Runs x)) none = absurd (none x refl)

-- on a complete board no worker runs anything
pub idle_complete : (b : Build) (s : State) → IsGraph b.graph → IsConsistent b s → is_complete b s ≡ true → AreIdle s
idle_complete b s graph here complete w =
    idle_if (slice_get s.workers w) (λ x is. complete_rests b graph s here complete x.vertex w (here.working w x is))
