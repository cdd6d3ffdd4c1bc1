-- What an event that is granted does, and where one is granted.
use Rattle.std.proofs.Common.{◌≡◌, ℕ, Bool, true, false, List, length, Option, Some, None, option_map, refl, sym, ap, subst, ◌∙◌, cond}
use Rattle.std.specs.Prelude.{slice_get, Result, Ok, Err}
use Rattle.std.specs.Result.{result_ok}
use Rattle.llb_cache.specs.declared.key.Key.{Key}
use Rattle.llb_loader.specs.declared.graph.Vertex.{Vertex}
use Rattle.llb_tree.specs.Tree.{TreeMap}
use Rattle.llb_model.specs.Caches.{Instance}
use Rattle.llb_model.specs.Program.{Build, MicroStep, Start, start_with, needs_of, step_on}
use Rattle.llb_model.specs.Outcome.{inputs_from}
use Rattle.llb_model.specs.State.{Status, Waiting, Running, Settled, Execution, WorkerStatus, Idle, Runs, State, ending_at, start_from, ready}
use Rattle.llb_model.specs.State.{program_in, work_of, is_finished, next_step, ending_from, held, places_for, held_key, begin_at}
use Rattle.llb_events.specs.declared.refusal.SettleFault.{SettleFault}
use Rattle.llb_events.specs.declared.refusal.SettleFault.TheVariants.{NotFinished}
use Rattle.llb_events.specs.declared.event.Event.{Event}
use Rattle.llb_events.specs.declared.event.Event.TheVariants.{Claim, Step, Settle, Cancel}
use Rattle.llb_model.specs.Table.{Reply, or_not_ready, claim_start, claim_at, claim_unless, claimed}
use Rattle.llb_model.specs.Table.{execution_on, with_step, step_by, step_with, stepped, settle_with, settled, cancel_with, cancelled, table}
use Rattle.llb_model.proofs.Lists.{inside, length_set}
use Rattle.llb_model.proofs.ConstructorEqualities.{inside_ok}

-- the state after an event, and its reply
abbrev pub Answer : Type 0
Answer = State × Reply

-- a vertex that begins with that
pub record IsReady (b : Build) (statuses : List Status) (v : ℕ) (start : Start) : Type 0 where
  pub waits : slice_get statuses v ≡ Some Waiting
  pub there : slice_get b.graph.vertices v ≡ Some start.vertex
  pub inputs : inputs_from (ending_at statuses) start.vertex.inputs ≡ Some start.inputs

-- the instances that a claim takes
abbrev pub claim_places : State → Start → List Instance
claim_places s start = places_for (held s.workers) (needs_of start.vertex)

pub record IsClaim (b : Build) (s : State) (w v : ℕ) (a : Answer) : Type 0 where
  pub idle : slice_get s.workers w ≡ Some Idle
  pub start : Start
  pub begins : IsReady b s.statuses v start
  pub unheld : held_key (held s.workers) (needs_of start.vertex) ≡ None
  pub gives : a ≡ claim_at b s w v start (claim_places s start)

pub record IsStep (b : Build) (s : State) (w : ℕ) (a : Answer) : Type 0 where
  pub x : Execution
  pub there : slice_get s.workers w ≡ Some (Runs x)
  pub step : MicroStep
  pub next : next_step (program_in b x).steps x ≡ Some step
  pub gives : a ≡ step_by s w x step (step_on x.done (Some step) (work_of s x))

pub record IsSettle (b : Build) (s : State) (w : ℕ) (a : Answer) : Type 0 where
  pub x : Execution
  pub there : slice_get s.workers w ≡ Some (Runs x)
  pub finished : is_finished (program_in b x).steps x ≡ true
  pub gives : a ≡ settle_with s w x.vertex (ending_from (program_in b x) x)

pub record IsCancel (s : State) (w : ℕ) (a : Answer) : Type 0 where
  pub x : Execution
  pub there : slice_get s.workers w ≡ Some (Runs x)
  pub gives : a ≡ cancel_with s w x.vertex x.done

-- ---- Ready

-- what a Ready vertex begins with shows that it waits, is one of the graph's, and has the trees of all its inputs
pub ready_is : (b : Build) (statuses : List Status) (v : ℕ) (start : Start) → ready b statuses v ≡ Some start → IsReady b statuses v start
ready_is b statuses v start e = by_status (slice_get statuses v) refl (slice_get b.graph.vertices v) refl e
  where
    by_inputs : slice_get statuses v ≡ Some Waiting → (vertex : Vertex) → slice_get b.graph.vertices v ≡ Some vertex
        → (r : Option (List TreeMap)) → inputs_from (ending_at statuses) vertex.inputs ≡ r
        → option_map (start_with vertex) r ≡ Some start → IsReady b statuses v start
    by_inputs waits vertex there None inputs e = absurd cc
    by_inputs waits vertex there (Some trees) inputs e =
        let same : start_with vertex trees ≡ start = cc in
        subst (IsReady b statuses v) same (record { waits = waits; there = there; inputs = inputs })

    by_status : (o : Option Status) → slice_get statuses v ≡ o → (u : Option Vertex) → slice_get b.graph.vertices v ≡ u
        → start_from statuses o u ≡ Some start → IsReady b statuses v start
    by_status None waits u there e = absurd cc
    by_status (Some Waiting) waits None there e = absurd cc
    by_status (Some Waiting) waits (Some vertex) there e = by_inputs waits vertex there (inputs_from (ending_at statuses) vertex.inputs) refl e
    by_status (Some (Running w)) waits u there e = absurd cc
    by_status (Some (Settled x)) waits u there e = absurd cc

-- and back: a vertex that waits and has the trees of all its inputs is Ready, and begins with just these
pub ready_as : (b : Build) (statuses : List Status) (v : ℕ) (start : Start) → IsReady b statuses v start → ready b statuses v ≡ Some start
ready_as b statuses v start r =
    ap (λ o. start_from statuses o (slice_get b.graph.vertices v)) r.waits ∙ ap (start_from statuses (Some Waiting)) r.there
    ∙ ap (option_map (start_with start.vertex)) r.inputs

-- ---- what is granted

granted_ok : {E : Type 0} (r : Result Answer E) (a : Answer) → result_ok r ≡ Some a → r ≡ Ok a
granted_ok (Ok x) a e = ap (λ y. Ok y) (inside e)
granted_ok (Err f) a e = absurd cc

-- what a granted claim shows: the worker is idle, the vertex Ready, no locked key of it is held, and the claim's state and reply
pub claim_is : (b : Build) (s : State) (w v : ℕ) (a : Answer) → table b s (Claim w v) ≡ Some a → IsClaim b s w v a
unfolding table
claim_is b s w v a e =
    by_worker (slice_get s.workers w) refl (slice_get b.graph.vertices v) refl
    (granted_ok (claimed b s w v (claim_start s.statuses v (slice_get s.workers w) (slice_get b.graph.vertices v))) a e)
  where
    by_key : slice_get s.workers w ≡ Some Idle → (start : Start) → IsReady b s.statuses v start → (o : Option Key)
        → held_key (held s.workers) (needs_of start.vertex) ≡ o
        → claim_unless b s w v start o ≡ Ok a → IsClaim b s w v a
    by_key idle start begins (Some k) is e = absurd cc
    by_key idle start begins None is e = record { idle = idle; start = start; begins = begins; unheld = is; gives = sym (inside_ok e) }

    by_ready : slice_get s.workers w ≡ Some Idle → (o : Option Start) → ready b s.statuses v ≡ o → claimed b s w v (or_not_ready o) ≡ Ok a → IsClaim b s w v a
    by_ready idle None is e = absurd cc
    by_ready idle (Some start) is e = by_key idle start (ready_is b s.statuses v start is) (held_key (held s.workers) (needs_of start.vertex)) refl e

    by_worker : (o : Option WorkerStatus) → slice_get s.workers w ≡ o → (u : Option Vertex) → slice_get b.graph.vertices v ≡ u
        → claimed b s w v (claim_start s.statuses v o u) ≡ Ok a → IsClaim b s w v a
    by_worker None is u there e = absurd cc
    by_worker (Some (Runs x)) is u there e = absurd cc
    by_worker (Some Idle) is None there e = absurd cc
    by_worker (Some Idle) is (Some vertex) there e =
        by_ready is (start_from s.statuses (slice_get s.statuses v) (Some vertex)) (ap (start_from s.statuses (slice_get s.statuses v)) there) e

-- what a granted step shows: the worker runs something that has a next micro-step, and the step's state and reply
pub step_is : (b : Build) (s : State) (w : ℕ) (a : Answer) → table b s (Step w) ≡ Some a → IsStep b s w a
unfolding table
step_is b s w a e = by_worker (slice_get s.workers w) refl (granted_ok (stepped b s w (slice_get s.workers w)) a e)
  where
    by_next : (x : Execution) → slice_get s.workers w ≡ Some (Runs x) → (o : Option MicroStep) → next_step (program_in b x).steps x ≡ o
        → step_with s w x o ≡ Ok a → IsStep b s w a
    by_next x there None is e = absurd cc
    by_next x there (Some m) is e = record { x = x; there = there; step = m; next = is; gives = sym (inside_ok e) }

    by_worker : (o : Option WorkerStatus) → slice_get s.workers w ≡ o → stepped b s w o ≡ Ok a → IsStep b s w a
    by_worker None is e = absurd cc
    by_worker (Some Idle) is e = absurd cc
    by_worker (Some (Runs x)) is e = by_next x is (next_step (program_in b x).steps x) refl e

settle_if : Build → State → ℕ → Execution → Bool → Result Answer SettleFault
settle_if b s w x fin = cond fin (Ok (settle_with s w x.vertex (ending_from (program_in b x) x))) (Err NotFinished)

-- what a granted settle shows: the worker runs something that is finished, and the settle's state and reply
pub settle_is : (b : Build) (s : State) (w : ℕ) (a : Answer) → table b s (Settle w) ≡ Some a → IsSettle b s w a
unfolding table settle_if
settle_is b s w a e = by_worker (slice_get s.workers w) refl (granted_ok (settled b s w (slice_get s.workers w)) a e)
  where
    by_test : (x : Execution) → slice_get s.workers w ≡ Some (Runs x) → (fin : Bool) → is_finished (program_in b x).steps x ≡ fin
        → settle_if b s w x fin ≡ Ok a → IsSettle b s w a
    by_test x there false is e = absurd cc
    by_test x there true is e = record { x = x; there = there; finished = is; gives = sym (inside_ok e) }

    by_worker : (o : Option WorkerStatus) → slice_get s.workers w ≡ o → settled b s w o ≡ Ok a → IsSettle b s w a
    by_worker None is e = absurd cc
    by_worker (Some Idle) is e = absurd cc
    by_worker (Some (Runs x)) is e = by_test x is (is_finished (program_in b x).steps x) refl e

-- what a granted cancel shows: the worker runs something, and the cancel's state and reply
pub cancel_is : (b : Build) (s : State) (w : ℕ) (a : Answer) → table b s (Cancel w) ≡ Some a → IsCancel s w a
unfolding table
cancel_is b s w a e = by_worker (slice_get s.workers w) refl (granted_ok (cancelled s w (slice_get s.workers w)) a e)
  where
    by_worker : (o : Option WorkerStatus) → slice_get s.workers w ≡ o → cancelled s w o ≡ Ok a → IsCancel s w a
    by_worker None is e = absurd cc
    by_worker (Some Idle) is e = absurd cc
    by_worker (Some (Runs x)) is e = record { x = x; there = is; gives = sym (inside_ok e) }

-- there are as many workers as before
pub workers_stay : (b : Build) (s : State) (e : Event) (a : Answer) → table b s e ≡ Some a → length a.0.workers ≡ length s.workers
workers_stay b s (Claim w v) a given =
    let c = claim_is b s w v a given in
    ap (λ (t : Answer). length t.0.workers) c.gives
    ∙ length_set s.workers w (Runs (execution_on v (begin_at b s.store c.start (claim_places s c.start)) (claim_places s c.start)))
workers_stay b s (Step w) a given =
    let c = step_is b s w a given in
    ap (λ (t : Answer). length t.0.workers) c.gives ∙ length_set s.workers w (Runs (with_step c.x (step_on c.x.done (Some c.step) (work_of s c.x))))
workers_stay b s (Settle w) a given = let c = settle_is b s w a given in ap (λ (t : Answer). length t.0.workers) c.gives ∙ length_set s.workers w Idle
workers_stay b s (Cancel w) a given = let c = cancel_is b s w a given in ap (λ (t : Answer). length t.0.workers) c.gives ∙ length_set s.workers w Idle

-- ---- where it is granted

-- an idle worker's claim of a Ready vertex is granted, where no locked key of the vertex is held
pub claim_granted : (b : Build) (s : State) (w v : ℕ) (start : Start) → slice_get s.workers w ≡ Some Idle → IsReady b s.statuses v start
    → held_key (held s.workers) (needs_of start.vertex) ≡ None → table b s (Claim w v) ≡ Some (claim_at b s w v start (claim_places s start))
unfolding table
claim_granted b s w v start idle r unheld =
    ap (λ o. result_ok (claimed b s w v (claim_start s.statuses v o (slice_get b.graph.vertices v)))) idle
    ∙ ap (λ o. result_ok (claimed b s w v (claim_start s.statuses v (Some Idle) o))) r.there
    ∙ ap (λ o. result_ok (claimed b s w v (or_not_ready o))) (sym (ap (start_from s.statuses (slice_get s.statuses v)) r.there)
    ∙ ready_as b s.statuses v start r)
    ∙ ap (λ o. result_ok (claim_unless b s w v start o)) unheld

-- the step of a worker that has a next micro-step is granted
pub step_granted : (b : Build) (s : State) (w : ℕ) (x : Execution) (m : MicroStep) → slice_get s.workers w ≡ Some (Runs x)
    → next_step (program_in b x).steps x ≡ Some m
    → table b s (Step w) ≡ Some (step_by s w x m (step_on x.done (Some m) (work_of s x)))
unfolding table
step_granted b s w x m there next = ap (λ o. result_ok (stepped b s w o)) there ∙ ap (λ o. result_ok (step_with s w x o)) next

-- the settle of a worker that is finished is granted
pub settle_granted : (b : Build) (s : State) (w : ℕ) (x : Execution) → slice_get s.workers w ≡ Some (Runs x) → is_finished (program_in b x).steps x ≡ true
    → table b s (Settle w) ≡ Some (settle_with s w x.vertex (ending_from (program_in b x) x))
unfolding table settle_if
settle_granted b s w x there fin = ap (λ o. result_ok (settled b s w o)) there ∙ ap (λ t. result_ok (settle_if b s w x t)) fin

-- the cancel of a worker that runs something is granted
pub cancel_granted : (b : Build) (s : State) (w : ℕ) (x : Execution) → slice_get s.workers w ≡ Some (Runs x)
    → table b s (Cancel w) ≡ Some (cancel_with s w x.vertex x.done)
unfolding table
cancel_granted b s w x there = ap (λ o. result_ok (cancelled s w o)) there
