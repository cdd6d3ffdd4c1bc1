-- What holds of every board in addition to `Headline`; the contracts of the laws (`src/laws.rt`) use these definitions.
use Rattle.std.specs.Prelude.{◌≡◌, ◌≢◌, ℕ, true, is_some, Bool, ◌||◌, ◌&&◌, Some, slice_get}
use Rattle.std.specs.List.{list_any, list_all}
use Rattle.llb_loader.specs.declared.graph.Edge.{Edge}
use Rattle.llb_loader.specs.declared.graph.Vertex.{Vertex}
use Rattle.llb_model.specs.Outcome.{Ending, Ended, outcome, outcome_on, ending_in, inputs_from, is_plain}
use Rattle.llb_model.specs.State.{State, Execution, Runs, Settled, ending_at, is_done, is_failed, is_waiting, is_ready, is_blocked}
use Rattle.llb_events.specs.declared.event.Event.{Event}
use Rattle.llb_model.specs.Table.{Reply, worker_of, table}
use Rattle.llb_model.specs.Run.{chosen}
use Rattle.llb_board.specs.BoardValue.{BoardValue}

-- every settled vertex with no cache mount at or before it has its plain outcome
abbrev pub SettledArePlain : BoardValue → Type 0
SettledArePlain b = (v : ℕ) (e : Ending) → is_plain b.build v ≡ true → slice_get b.state.statuses v ≡ Some (Settled e) → outcome b.build v ≡ Some (Ended e)

-- the table grants the chosen event: the next event of the first running worker or, if no worker runs, worker 0's claim of the first Ready vertex
abbrev pub ChosenIsGranted : BoardValue → Type 0
ChosenIsGranted b = (e : Event) → chosen b.build b.state ≡ Some e → is_some (table b.build b.state e) ≡ true

-- a granted event changes the state of no worker except the event's worker
abbrev pub OthersKeep : BoardValue → Type 0
OthersKeep b = (e : Event) (a : State × Reply) → table b.build b.state e ≡ Some a → (u : ℕ) → u ≢ worker_of e
    → slice_get a.0.workers u ≡ slice_get b.state.workers u

-- no two workers run the same vertex
abbrev pub OneWorkerEach : BoardValue → Type 0
OneWorkerEach b = (u w : ℕ) (x y : Execution) → slice_get b.state.workers u ≡ Some (Runs x) → slice_get b.state.workers w ≡ Some (Runs y)
    → x.vertex ≡ y.vertex → u ≡ w

-- a vertex is Ready exactly if it waits, and the vertices of all its inputs are done
abbrev pub ReadyBehindDone : BoardValue → Type 0
ReadyBehindDone b = (v : ℕ) (x : Vertex) → slice_get b.build.graph.vertices v ≡ Some x
    → is_ready b.build b.state.statuses v
    ≡ (is_waiting (slice_get b.state.statuses v) && list_all (λ (e : Edge). is_done (ending_at b.state.statuses e.vertex)) x.inputs)

-- whether a vertex has failed or is blocked
abbrev pub is_failed_or_blocked : BoardValue → ℕ → Bool
is_failed_or_blocked b v = is_failed (ending_at b.state.statuses v) || is_blocked b.build b.state.statuses v

-- a vertex is blocked exactly if it waits, and the vertex of one of its inputs has failed or is blocked
abbrev pub BlockedBehindAFailure : BoardValue → Type 0
BlockedBehindAFailure b = (v : ℕ) (x : Vertex) → slice_get b.build.graph.vertices v ≡ Some x
    → is_blocked b.build b.state.statuses v
    ≡ (is_waiting (slice_get b.state.statuses v) && list_any (λ (e : Edge). is_failed_or_blocked b e.vertex) x.inputs)

-- the plain outcome of a vertex is what its whole program makes of the plain outcomes of its inputs
abbrev pub OutcomeByInputs : BoardValue → Type 0
OutcomeByInputs b = (v : ℕ) (x : Vertex) → slice_get b.build.graph.vertices v ≡ Some x
    → outcome b.build v ≡ Some (outcome_on b.build x (inputs_from (λ k. ending_in (outcome b.build k)) x.inputs))
