-- No rule of the table refuses an event for want of memory.
use Rattle.std.proofs.Common.{◌≡◌, ℕ, false, List, Option, Some, None, Result, Ok, Err, refl, slice_get}
use Rattle.std.specs.Prelude.{IfErr}
use Rattle.llb_cache.specs.declared.key.Key.{Key}
use Rattle.llb_loader.specs.declared.graph.Vertex.{Vertex}
use Rattle.llb_events.specs.declared.refusal.ClaimFault.{ClaimFault}
use Rattle.llb_events.specs.Faults.{claim_memory, step_memory}
use Rattle.llb_model.specs.Program.{Build, MicroStep, Start, needs_of}
use Rattle.llb_model.specs.State.{Status, Execution, WorkerStatus, Idle, Runs, State, start_from, program_in, next_step, held, held_key}
use Rattle.llb_model.specs.Table.{or_not_ready, claim_start, claim_unless, claimed, claim_grant, step_with, stepped, step_grant}

-- the refusal of a claim, if it is one, is not that of memory
abbrev IsOfTheRules : {A : Type 0} → Result A ClaimFault → Type 0
IsOfTheRules r = IfErr r (λ e. claim_memory e ≡ false)

start_is : (statuses : List Status) (v : ℕ) (worker : Option WorkerStatus) (vertex : Option Vertex) → IsOfTheRules (claim_start statuses v worker vertex)
start_is statuses v None vertex = refl
start_is statuses v (Some (Runs x)) vertex = refl
start_is statuses v (Some Idle) None = refl
start_is statuses v (Some Idle) (Some vertex) = by_start (start_from statuses (slice_get statuses v) (Some vertex))
  where
    by_start : (start : Option Start) → IsOfTheRules (or_not_ready start)
    by_start (Some x) = tt
    by_start None = refl

claimed_is : (b : Build) (s : State) (w v : ℕ) (start : Result Start ClaimFault) → IsOfTheRules start → IsOfTheRules (claimed b s w v start)
claimed_is b s w v (Err e) is = is
claimed_is b s w v (Ok start) is = by_key (held_key (held s.workers) (needs_of start.vertex))
  where
    by_key : (key : Option Key) → IsOfTheRules (claim_unless b s w v start key)
    by_key (Some k) = refl
    by_key None = tt

pub claim_refused_by_rule : (b : Build) (s : State) (w v : ℕ) → IfErr (claim_grant b s w v) (λ e. claim_memory e ≡ false)
claim_refused_by_rule b s w v =
    let worker = slice_get s.workers w in
    let vertex = slice_get b.graph.vertices v in
    claimed_is b s w v (claim_start s.statuses v worker vertex) (start_is s.statuses v worker vertex)

pub step_refused_by_rule : (b : Build) (s : State) (w : ℕ) → IfErr (step_grant b s w) (λ e. step_memory e ≡ false)
step_refused_by_rule b s w = by_worker (slice_get s.workers w)
  where
    by_next : (x : Execution) (next : Option MicroStep) → IfErr (step_with s w x next) (λ e. step_memory e ≡ false)
    by_next x (Some m) = tt
    by_next x None = refl

    by_worker : (worker : Option WorkerStatus) → IfErr (stepped b s w worker) (λ e. step_memory e ≡ false)
    by_worker None = refl
    by_worker (Some Idle) = refl
    by_worker (Some (Runs x)) = by_next x (next_step (program_in b x).steps x)
