-- What an event does not touch.
use Rattle.std.proofs.Common.{◌≡◌, ◌≢◌, ℕ, Some, sym, ap, ◌∙◌}
use Rattle.std.specs.Prelude.{slice_get}
use Rattle.llb_model.specs.Program.{Build, step_on}
use Rattle.llb_model.specs.State.{State, Status, Running, Execution, Idle, Runs, work_of, begin_at}
use Rattle.llb_events.specs.declared.event.Event.{Event}
use Rattle.llb_events.specs.declared.event.Event.TheVariants.{Claim, Step, Settle, Cancel}
use Rattle.llb_model.specs.Table.{worker_of, execution_on, with_step, table}
use Rattle.llb_model.proofs.Lists.{inside, get_set_other}
use Rattle.llb_model.proofs.GrantedEvents.{Answer, claim_places, claim_is, step_is, settle_is, cancel_is}
use Rattle.llb_board.specs.BoardValue.{BoardValue, Replays}
use Rattle.llb_board.proofs.RecordedRunStates.{consistent}

-- an event writes what its own worker does, and no other's
pub others : (b : Build) (s : State) (e : Event) (a : Answer) → table b s e ≡ Some a → (u : ℕ) → u ≢ worker_of e
    → slice_get a.0.workers u ≡ slice_get s.workers u
others b s (Claim w v) a given u apart =
    let c = claim_is b s w v a given in
    ap (λ (t : Answer). slice_get t.0.workers u) c.gives
    ∙ get_set_other s.workers w (Runs (execution_on v (begin_at b s.store c.start (claim_places s c.start)) (claim_places s c.start))) u apart
others b s (Step w) a given u apart =
    let c = step_is b s w a given in
    ap (λ (t : Answer). slice_get t.0.workers u) c.gives
    ∙ get_set_other s.workers w (Runs (with_step c.x (step_on c.x.done (Some c.step) (work_of s c.x)))) u apart
others b s (Settle w) a given u apart =
    let c = settle_is b s w a given in
    ap (λ (t : Answer). slice_get t.0.workers u) c.gives ∙ get_set_other s.workers w Idle u apart
others b s (Cancel w) a given u apart =
    let c = cancel_is b s w a given in
    ap (λ (t : Answer). slice_get t.0.workers u) c.gives ∙ get_set_other s.workers w Idle u apart

running_by : Status → ℕ
running_by (Running w) = w
running_by _ = 0

-- the status of a vertex names the worker that runs it, so no two run one
pub one_each : (b : BoardValue) → Replays b → (u w : ℕ) (x y : Execution) → slice_get b.state.workers u ≡ Some (Runs x) → slice_get b.state.workers w
    ≡ Some (Runs y)
    → x.vertex ≡ y.vertex → u ≡ w
unfolding running_by
one_each b here u w x y at there same =
    let is = consistent b here in
    ap running_by (inside (sym (is.working u x at) ∙ ap (slice_get b.state.statuses) same ∙ is.working w y there))
