-- Where the table grants what the board does.
use Rattle.std.proofs.Common.{◌≡◌, ℕ, Bool, true, false, Option, Some, None, refl, sym, ap, ◌∙◌}
use Rattle.std.specs.Prelude.{Result, Ok, Err, slice_get, if◌then◌else◌}
use Rattle.std.specs.Result.{result_ok}
use Rattle.llb_model.specs.Program.{Build}
use Rattle.llb_model.specs.Outcome.{Ending}
use Rattle.llb_model.specs.State.{Status, Settled, Execution, WorkerStatus, Idle, Runs, State, program_in, is_finished, ending_from}
use Rattle.llb_events.specs.declared.refusal.SettleFault.TheVariants as no_settle
use Rattle.llb_events.specs.declared.event.Event.TheVariants.{Claim, Step, Settle, Cancel}
use Rattle.llb_model.specs.Table.{claim_grant, step_grant, settle_with, settle_grant, settled, cancel_with, cancel_grant}
use Rattle.llb_model.specs.Table.{cancelled, table}
use Rattle.llb_model.proofs.GrantedEvents.{Answer}
use Rattle.llb_events.specs.declared.refusal.SettleFault.{SettleFault}
use Rattle.llb_events.specs.declared.refusal.SettleFault.TheVariants.{NotFinished}
use Rattle.llb_board.specs.WorkerRules.{left_at, given_up_at}
use Rattle.llb_model.proofs.ConstructorEqualities.{inside_ok}
use Rattle.llb_board.proofs.GrantsAndRefusals.{left_if}

-- ---- the table, by the grants

-- what the rule of a claim grants, the table grants
pub claim_done : (b : Build) (s : State) (w v : ℕ) (a : Answer) → claim_grant b s w v ≡ Ok a → table b s (Claim w v) ≡ Some a
unfolding table
claim_done b s w v a is = ap result_ok is

-- what the rule of a step grants, the table grants
pub step_done : (b : Build) (s : State) (w : ℕ) (a : Answer) → step_grant b s w ≡ Ok a → table b s (Step w) ≡ Some a
unfolding table
step_done b s w a is = ap result_ok is

-- what the rule of a settle grants, the table grants
pub settle_done : (b : Build) (s : State) (w : ℕ) (a : Answer) → settle_grant b s w ≡ Ok a → table b s (Settle w) ≡ Some a
unfolding table
settle_done b s w a is = ap result_ok is

-- what the rule of a cancel grants, the table grants
pub cancel_done : (b : Build) (s : State) (w : ℕ) (a : Answer) → cancel_grant s w ≡ Ok a → table b s (Cancel w) ≡ Some a
unfolding table
cancel_done b s w a is = ap result_ok is

-- ---- a settle

abbrev settled_if : Build → State → ℕ → Execution → Bool → Result Answer SettleFault
settled_if b s w x f = if f then Ok (settle_with s w x.vertex (ending_from (program_in b x) x)) else Err no_settle.NotFinished

pub record CanSettle (b : Build) (s : State) (w v : ℕ) (stands : Status) : Type 0 where
  pub ending : Ending
  pub is : stands ≡ Settled ending
  pub x : Execution
  pub there : slice_get s.workers w ≡ Some (Runs x)
  pub vertex : x.vertex ≡ v
  pub grants : settle_grant b s w ≡ Ok (settle_with s w v ending)

-- a worker that can leave a vertex runs it and is finished, so that the table grants its settle
pub can_settle : (b : Build) (s : State) (w v : ℕ) (stands : Status) → left_at b (slice_get s.workers w) ≡ Ok (v, stands) → CanSettle b s w v stands
can_settle b s w v stands is = by_worker (slice_get s.workers w) refl is
  where
    by_test : (x : Execution) → slice_get s.workers w ≡ Some (Runs x) → (f : Bool) → is_finished (program_in b x).steps x ≡ f
        → left_if b x f ≡ Ok (v, stands) → CanSettle b s w v stands
    by_test x there false test is = absurd cc
    by_test x there true test is =
        let same : ◌≡◌ {A = ℕ × Status} (x.vertex, Settled (ending_from (program_in b x) x)) (v, stands) = inside_ok is in
        record {
          ending = ending_from (program_in b x) x;
          is = sym (ap (λ p. p.1) same);
          x = x;
          there = there;
          vertex = ap (λ p. p.0) same;
          grants = ap (settled b s w) there ∙ ap (settled_if b s w x) test
              ∙ (λ i. Ok (settle_with s w (same i).0 (ending_from (program_in b x) x)));
        }

    by_worker : (o : Option WorkerStatus) → slice_get s.workers w ≡ o → left_at b o ≡ Ok (v, stands) → CanSettle b s w v stands
    by_worker None there is = absurd cc
    by_worker (Some Idle) there is = absurd cc
    by_worker (Some (Runs x)) there is = by_test x there (is_finished (program_in b x).steps x) refl is

-- ---- a cancel

pub record CanCancel (s : State) (w v n : ℕ) : Type 0 where
  pub x : Execution
  pub there : slice_get s.workers w ≡ Some (Runs x)
  pub vertex : x.vertex ≡ v
  pub grants : cancel_grant s w ≡ Ok (cancel_with s w v n)

-- a worker that can give a vertex up runs it, so that the table grants its cancel
pub can_cancel : (s : State) (w v n : ℕ) → given_up_at (slice_get s.workers w) ≡ Ok (v, n) → CanCancel s w v n
can_cancel s w v n is = by_worker (slice_get s.workers w) refl is
  where
    by_worker : (o : Option WorkerStatus) → slice_get s.workers w ≡ o → given_up_at o ≡ Ok (v, n) → CanCancel s w v n
    by_worker None there is = absurd cc
    by_worker (Some Idle) there is = absurd cc
    by_worker (Some (Runs x)) there is =
        let same : ◌≡◌ {A = ℕ × ℕ} (x.vertex, x.done) (v, n) = inside_ok is in
        record {
          x = x;
          there = there;
          vertex = ap (λ p. p.0) same;
          grants = ap (cancelled s w) there ∙ (λ i. Ok (cancel_with s w (same i).0 (same i).1));
        }
