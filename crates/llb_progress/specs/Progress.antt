-- Progress by the table: no state is stuck, and every way of going on without cancels ends in a complete state after a known number of events.
use Rattle.std.specs.Prelude.{◌≡◌, ◌↔◌, ◌⊎◌, ℕ, zero, suc, ◌+◌, ◌<◌, ◌≤◌, Bool, true, false, List, [], ◌∷◌, length, sum_by, Some, None}
use Rattle.std.specs.Prelude.{is_some, slice_get, Err, if◌then◌else◌}
use Rattle.llb_cache.specs.declared.key.Key.{Key}
use Rattle.llb_cache.specs.declared.key.Mode.TheVariants.{Locked}
use Rattle.llb_events.specs.declared.event.Event.{Event}
use Rattle.llb_events.specs.declared.event.Event.TheVariants.{Claim, Step, Settle, Cancel}
use Rattle.llb_events.specs.declared.refusal.ClaimFault.TheVariants.{Held}
use Rattle.llb_model.specs.Caches.{place, Has}
use Rattle.llb_model.specs.Program.{Build}
use Rattle.llb_model.specs.State.{Execution, Idle, Runs, State, is_ready, is_finished, program_in}
use Rattle.llb_model.specs.Table.{Reply, claim_grant, table}
use Rattle.llb_model.specs.Run.{run, is_complete}
use Rattle.llb_model.specs.EventBounds.{events_of, still_to_come}
use Rattle.llb_model.specs.WholeRunLaws.{HasNoCaches}

-- ---- which events are granted

-- the table grants the event
abbrev pub IsGranted : Build → State → Event → Type 0
IsGranted b s e = is_some (table b s e) ≡ true

-- the event by which a running worker goes on: the settle if its execution is finished, else the next step
abbrev pub next_by : Build → ℕ → Execution → Event
next_by b w x = if is_finished (program_in b x).steps x then Settle w else Step w

-- each running worker can go on at once, whatever the other workers do
abbrev pub RunningGoOn : Build → State → Type 0
RunningGoOn b s = (w : ℕ) (x : Execution) → slice_get s.workers w ≡ Some (Runs x) → IsGranted b s (next_by b w x)

-- no worker runs anything
abbrev pub NoneRuns : State → Type 0
NoneRuns s = (w : ℕ) (x : Execution) → slice_get s.workers w ≡ Some (Runs x) → ⊥

-- while no worker runs anything, each worker can claim each Ready vertex
abbrev pub IdleClaimReady : Build → State → Type 0
IdleClaimReady b s = NoneRuns s → (w v : ℕ) → w < length s.workers → is_ready b s.statuses v ≡ true → IsGranted b s (Claim w v)

-- while no worker runs anything, some vertex is Ready, unless the state is complete
abbrev pub SomeIsReady : Build → State → Type 0
SomeIsReady b s = NoneRuns s → is_complete b s ≡ false → (v : ℕ) × (is_ready b s.statuses v ≡ true)

-- a worker holds instance 0 of this locked key, and can go on at once
pub record IsHeldBy (b : Build) (s : State) (k : Key) (u : ℕ) : Type 0 where
  pub execution : Execution
  pub runs : slice_get s.workers u ≡ Some (Runs execution)
  pub has : Has execution.places (place k 0)
  pub goes_on : IsGranted b s (next_by b u execution)

-- the claim is refused for a locked key, and another worker, which runs and can go on at once, holds this key
pub record IsHeldUp (b : Build) (s : State) (w v : ℕ) : Type 0 where
  pub key : Key
  pub refused : claim_grant b s w v ≡ Err (Held key)
  pub locked : key.mode ≡ Locked
  pub holder : ℕ
  pub holds : IsHeldBy b s key holder

-- the claim of a Ready vertex by an idle worker is granted, or refused only for a locked key that a running worker holds
abbrev pub ReadyIsClaimedOrHeldUp : Build → State → Type 0
ReadyIsClaimedOrHeldUp b s = (w v : ℕ) → slice_get s.workers w ≡ Some Idle → is_ready b s.statuses v ≡ true → IsGranted b s (Claim w v) ⊎ IsHeldUp b s w v

-- a state is complete exactly if no event is granted in it
abbrev pub CompleteIsTheEnd : Build → State → Type 0
CompleteIsTheEnd b s = (is_complete b s ≡ true) ↔ ((e : Event) → table b s e ≡ None)

-- ---- how long a run can go on

-- whether an event is a cancel
abbrev pub is_cancel : Event → Bool
is_cancel (Claim w v) = false
is_cancel (Step w) = false
is_cancel (Settle w) = false
is_cancel (Cancel w) = true

-- none of the events is a cancel
abbrev pub GoOnly : List Event → Type 0
GoOnly [] = Unit {0}
GoOnly (e ∷ es) = (is_cancel e ≡ false) × GoOnly es

-- the sum over the vertices of how many micro-steps each has, and two
abbrev pub all_events : Build → ℕ
all_events b = sum_by events_of b.graph.vertices

-- each granted event that is no cancel lowers the number of events that can still come
abbrev pub EachComesNearer : Build → State → Type 0
EachComesNearer b s = (e : Event) (t : State) (r : Reply) → is_cancel e ≡ false → table b s e ≡ Some (t, r) → still_to_come b t + 1 ≤ still_to_come b s

-- no list of granted events without cancels is longer than the number of events that can still come, nor than the sum over all vertices
pub record HasFewToCome (b : Build) (s : State) : Type 0 where
  pub most : still_to_come b s ≤ all_events b
  pub few : (es : List Event) (t : State) (rs : List Reply) → GoOnly es → run b s es ≡ Some (t, rs) → still_to_come b t + length es ≤ still_to_come b s

-- some event is granted that is no cancel
pub record CanGoOn (b : Build) (s : State) : Type 0 where
  pub event : Event
  pub goes : is_cancel event ≡ false
  pub granted : IsGranted b s event

-- Every way of going on without cancels comes to a complete state after at most n events, whichever worker does which event next. The state is complete; or
-- some event that is no cancel is granted, and each such event leads to a state from which every way of going on is complete after at most n - 1 events.
abbrev pub EndsWithin : Build → ℕ → State → Type 0
EndsWithin b zero s = is_complete b s ≡ true
EndsWithin b (suc n) s = (is_complete b s ≡ true)
    ⊎ (CanGoOn b s × ((e : Event) (t : State) (r : Reply) → is_cancel e ≡ false → table b s e ≡ Some (t, r) → EndsWithin b n t))

-- the same, in terms of whole lists of events: a list of granted events without cancels that can't be made longer by such an event ends in a complete state
abbrev pub LongestAreComplete : Build → State → Type 0
LongestAreComplete b s = (es : List Event) (t : State) (rs : List Reply) → run b s es ≡ Some (t, rs)
    → ((e : Event) → is_cancel e ≡ false → table b t e ≡ None) → is_complete b t ≡ true

-- ---- one end

-- two complete states over one graph without cache mounts, and over the same local trees, have the same statuses, and so the same outputs and faults
abbrev pub EndAsOne : Build → State → Build → State → Type 0
EndAsOne b s c t = b ≡ c → HasNoCaches b → is_complete b s ≡ true → is_complete c t ≡ true → s.statuses ≡ t.statuses
