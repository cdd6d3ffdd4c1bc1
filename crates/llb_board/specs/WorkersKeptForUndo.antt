-- What is kept of the workers before an event so that the event can be taken back, and the workers after the event is taken back.
use Rattle.std.specs.Prelude.{◌≡◌, ℕ, ◌+◌, ◌-◌, ◌^◌, ◌<◌, Bool, true, false, List, length, map, Option, Some, None, Result, Ok, Err, slice_get, slice_set}
use Rattle.llb_cache.specs.declared.lease_additions.Growth.{Growth}
use Rattle.llb_cache.specs.Caches.{Row, trees_of}
use Rattle.llb_cache.specs.LeaseAdditions.{LentValue, growth_at, unmade}
use Rattle.llb_tree.specs.Tree.{TreeMap}
use Rattle.llb_execution.specs.SavedWorkspaces.{Saved, saved_of, put_back}
use Rattle.llb_execution.specs.ModelValues.{mounts_in}
use Rattle.llb_model.specs.Caches.{Instance, Has, Distinct, IsExclusive, trees_at}
use Rattle.llb_model.specs.TwoCacheModels.{store_of, put_each}
use Rattle.llb_model.specs.Program.{key_of}
use Rattle.llb_model.specs.State.{State, Status, Waiting, Running, Execution, WorkerStatus, Idle, Runs, held, places_for, places_at}
use Rattle.llb_model.specs.Table as table
use Rattle.llb_events.specs.Faults.{claim_may_want}
use Rattle.llb_events.specs.declared.event.Event as own_event
use Rattle.llb_events.specs.declared.event.Event.TheVariants as event
use Rattle.llb_board.specs.declared.fault.WalkFault.{WalkFault}
use Rattle.llb_board.specs.declared.fault.WalkFault.TheVariants as walk
use Rattle.llb_events.specs.declared.refusal.SettleFault.TheVariants as no_settle
use Rattle.llb_events.specs.declared.refusal.CancelFault.TheVariants as no_cancel
use Rattle.llb_board.specs.RunningWorkerSupplies.{Supplies, supplies_for, mounts_at, needs_at}
use Rattle.llb_board.specs.Faults.{faulted}
use Rattle.llb_board.specs.OptionalLeases.{lent_of}
use Rattle.llb_board.specs.WorkerUndo.{Left, left_in}
use Rattle.llb_board.specs.Vertices.{VerticesValue, status_of}
use Rattle.llb_board.specs.Workers.{WorkersValue, state_in, claim_in, step_in}
use Rattle.llb_board.specs.declared.workers.undoing.Back as undo
use Rattle.llb_board.specs.declared.workers.undoing.Back.TheVariants as back
use Rattle.llb_board.specs.declared.workers.undoing.Change as change
use Rattle.llb_board.specs.declared.workers.undoing.End.{End}
use Rattle.llb_board.specs.declared.workers.undoing.End.TheVariants as end

-- ---- the result of an event

-- the table's result of an event on this state, with a refusal turned into the fault that `Board::walk` returns for this refusal
abbrev pub walk_in : VerticesValue → WorkersValue → own_event.Event → Result (State × table.Reply) WalkFault
walk_in vs ws (event.Claim w v) = faulted walk.Claim (claim_in vs ws w v)
walk_in vs ws (event.Step w) = faulted walk.Step (step_in vs ws w)
walk_in vs ws (event.Settle w) = faulted walk.Settle (table.settle_grant vs.build (state_in vs ws) w)
walk_in vs ws (event.Cancel w) = faulted walk.Cancel (table.cancel_grant (state_in vs ws) w)

-- whether a refusal of `walk` is `Memory`
abbrev pub walk_memory : WalkFault → Bool
walk_memory walk.Memory = true
walk_memory (walk.Claim e) = false
walk_memory (walk.Step e) = false
walk_memory (walk.Settle e) = false
walk_memory (walk.Cancel e) = false

-- whether the call for an event may need memory, given the table's result: true for a grant, and for a refusal with 135 `Held` whose key has a text to copy
abbrev pub walk_may_want : {A : Type 0} → Result A WalkFault → Bool
walk_may_want (Ok a) = true
walk_may_want {A} (Err (walk.Claim e)) = claim_may_want {A = A} (Err e)
walk_may_want (Err (walk.Step e)) = false
walk_may_want (Err (walk.Settle e)) = false
walk_may_want (Err (walk.Cancel e)) = false
walk_may_want (Err walk.Memory) = false

-- the event that ends an execution: a settle or a cancel
abbrev pub end_of : End → ℕ → own_event.Event
end_of end.Settle w = event.Settle w
end_of end.Cancel w = event.Cancel w

-- whether an execution may end so, given whether it is finished: a settle needs a finished execution
abbrev pub may_end : End → Bool → Bool
may_end end.Settle finished = finished
may_end end.Cancel finished = true

-- the refusal of a settle or a cancel whose worker does not exist
abbrev pub no_worker : End → WalkFault
no_worker end.Settle = walk.Settle no_settle.NoWorker
no_worker end.Cancel = walk.Cancel no_cancel.NoWorker

-- the refusal of a settle or a cancel whose worker is idle
abbrev pub not_running : End → WalkFault
not_running end.Settle = walk.Settle no_settle.NotRunning
not_running end.Cancel = walk.Cancel no_cancel.NotRunning

-- ---- what an event displaces: what it changes, and what has to be kept to take the event back

-- What is kept to undo an event. For a claim: the worker, the vertex, what its lease added to the caches. For a step: the worker, what the step can change in
-- the workspace, and the trees of its instances. For a settle or a cancel: which it was, the worker, what it ran, and a prepared lease if it held instances.
pub data Back : Type 0 where
  Unclaim : ℕ → ℕ → List Growth → Back
  Unstep : ℕ → Saved → List TreeMap → Back
  Resume : End → ℕ → Left → Option LentValue → Back

-- what an event displaced: the data, as one value, that are needed to take the event back
pub record Displaced : Type 0 where
  pub back : Back

-- what is needed to take an event back: the value that contracts see (`Back`), made from the code's value
abbrev pub back_in : undo.Back → Back
back_in (back.Unclaim w v growths) = Unclaim w v growths.items
back_in (back.Unstep w saved trees) = Unstep w saved trees.items
back_in (back.Resume e w x lent) = Resume e w (left_in x) lent

-- ---- the event taken back

-- an execution after its last micro-step is taken back: one micro-step fewer is done, there is no fault, and the copies in `saved` are back in the workspace
abbrev pub with_view_back : Saved → Execution → Execution
with_view_back saved x = record x { done = x.done - 1; fault = None; own = put_back saved x.own }

-- the status of a worker before its last micro-step, given the worker's status now; idle if the worker runs nothing
abbrev pub step_before : Saved → Option WorkerStatus → WorkerStatus
step_before saved (Some (Runs x)) = Runs (with_view_back saved x)
step_before saved (Some Idle) = Idle
step_before saved None = Idle

-- the statuses of the workers before an event, given what the event displaced (`Back`) and the statuses after it
abbrev pub workers_before : Back → List WorkerStatus → List WorkerStatus
workers_before (Unclaim w v growths) workers = slice_set workers w Idle
workers_before (Unstep w saved trees) workers = slice_set workers w (step_before saved (slice_get workers w))
workers_before (Resume e w left lent) workers = slice_set workers w (Runs left.execution)

-- the supplies of each worker (what a worker has while it runs a vertex) as they were before the event
abbrev pub supplies_before : Back → List Supplies → List Supplies
supplies_before (Unclaim w v growths) supplies = slice_set supplies w (supplies_for None)
supplies_before (Unstep w saved trees) supplies = supplies
supplies_before (Resume e w left lent) supplies = slice_set supplies w left.supplies

-- the rows of the caches before the event, given the rows and the workers' statuses after the event: only instances that the event's worker holds differ
abbrev pub rows_before : Back → List WorkerStatus → List Row → List Row
rows_before (Unclaim w v growths) workers rows = unmade rows (places_at (slice_get workers w)) growths
rows_before (Unstep w saved trees) workers rows = put_each rows (places_at (slice_get workers w)) trees
rows_before (Resume e w left lent) workers rows = rows

-- the vertex whose status changes when the event is taken back, and the status that it then has again; none for a step
abbrev pub change_in : Back → Option (ℕ × Status)
change_in (Unclaim w v growths) = Some (v, Waiting)
change_in (Unstep w saved trees) = None
change_in (Resume e w left lent) = Some (left.execution.vertex, Running w)

-- a change of a vertex's status, as the pair of the vertex and its new status
abbrev pub change_of : change.Change → ℕ × Status
change_of c = (c.vertex, status_of c.stage)

-- ---- when an event can be taken back

-- worker w runs a vertex; putting `saved` back keeps the number of mounts of w's workspace; and `trees` has a tree for each instance that w holds
pub record IsStepped (workers : List WorkerStatus) (w : ℕ) (saved : Saved) (trees : List TreeMap) : Type 0 where
  pub x : Execution
  pub runs : slice_get workers w ≡ Some (Runs x)
  pub mounts : mounts_in (put_back saved x.own) ≡ mounts_in x.own
  pub count : length trees ≡ length x.places
  pub few : length trees < 2 ^ 32

-- worker w is idle; the instances that w held have distinct keys; and if w held any, `lent` is a prepared lease of these instances
pub record IsLeft (workers : List WorkerStatus) (w : ℕ) (left : Left) (lent : Option LentValue) : Type 0 where
  pub idle : slice_get workers w ≡ Some Idle
  pub keys : Distinct (map (λ (p : Instance). p.key) left.execution.places)
  pub ready : lent ≡ lent_of left.execution.places (length workers + 1)

-- the condition on the worker for taking the event back: after a claim, the worker exists; after a step, `IsStepped`; after a settle or a cancel, `IsLeft`
abbrev pub IsBehind : Back → List WorkerStatus → Type 0
IsBehind (Unclaim w v growths) workers = w < length workers
IsBehind (Unstep w saved trees) workers = IsStepped workers w saved trees
IsBehind (Resume e w left lent) workers = IsLeft workers w left lent

-- each instance that a worker holds exists in the rows
abbrev pub AreHeldThere : List WorkerStatus → List Row → Type 0
AreHeldThere workers rows = (w : ℕ) (x : Execution) (p : Instance) → slice_get workers w ≡ Some (Runs x) → Has x.places p
    → p.number < length (trees_of rows p.key)

-- two workers that hold the same instance of a locked or a private key are the same worker
abbrev pub AreHeldOnce : List WorkerStatus → Type 0
AreHeldOnce workers = (w u : ℕ) (x y : Execution) (p : Instance) → slice_get workers w ≡ Some (Runs x) → slice_get workers u ≡ Some (Runs y)
    → Has x.places p → Has y.places p → IsExclusive p.key.mode → w ≡ u

-- the event's worker is as the event left it (`IsBehind`); before the event, each held instance existed, and no two workers held one of a locked or private key
pub record CanPutBack (u : Displaced) (ws : WorkersValue) : Type 0 where
  pub behind : IsBehind u.back ws.workers
  pub there : AreHeldThere (workers_before u.back ws.workers) (rows_before u.back ws.workers ws.rows)
  pub once : AreHeldOnce (workers_before u.back ws.workers)

-- ---- what is kept before an event

-- the instances that a claim of vertex v takes
abbrev pub taken_at : VerticesValue → WorkersValue → ℕ → List Instance
taken_at vs ws v = places_for (held ws.workers) (needs_at (slice_get vs.build.graph.vertices v))

-- `u` holds what has to be put back to take back a claim of vertex v by worker w
pub record MarksClaim (vs : VerticesValue) (ws : WorkersValue) (w v : ℕ) (u : Displaced) : Type 0 where
  pub back : u.back ≡ Unclaim w v (map (growth_at ws.rows) (taken_at vs ws v))

-- `u` holds what has to be put back to take back a micro-step of worker w
pub record MarksStep (vs : VerticesValue) (ws : WorkersValue) (w : ℕ) (u : Displaced) : Type 0 where
  pub x : Execution
  pub runs : slice_get ws.workers w ≡ Some (Runs x)
  pub back : u.back ≡ Unstep w (saved_of x.own) (trees_at (store_of ws.rows) x.places)
  pub mounts : mounts_in x.own ≡ length (mounts_at (slice_get vs.build.graph.vertices x.vertex))
  pub keys : map (λ (p : Instance). p.key) x.places ≡ map key_of (needs_at (slice_get vs.build.graph.vertices x.vertex))

-- `u` holds what has to be put back to take back `e`, the settle or the cancel of the vertex that worker w runs
pub record MarksEnd (vs : VerticesValue) (ws : WorkersValue) (e : End) (w : ℕ) (u : Displaced) : Type 0 where
  pub left : Left
  pub runs : slice_get ws.workers w ≡ Some (Runs left.execution)
  pub back : u.back ≡ Resume e w left (lent_of left.execution.places (length ws.workers + 1))
  pub supplies : left.supplies ≡ supplies_for (slice_get vs.build.graph.vertices left.execution.vertex)
  pub keys : map (λ (p : Instance). p.key) left.execution.places ≡ left.supplies.keys

-- `u` holds what has to be put back to take this event back
abbrev pub MarksIn : VerticesValue → WorkersValue → own_event.Event → Displaced → Type 0
MarksIn vs ws (event.Claim w v) u = MarksClaim vs ws w v u
MarksIn vs ws (event.Step w) u = MarksStep vs ws w u
MarksIn vs ws (event.Settle w) u = MarksEnd vs ws end.Settle w u
MarksIn vs ws (event.Cancel w) u = MarksEnd vs ws end.Cancel w u
