-- The result of `Board::walk`, which does an event and returns what is needed to take the event back; and the board after the event is taken back.
use Rattle.std.specs.Prelude.{◌≡◌, ℕ, ◌+◌, List, [], ◌∷◌, ◌++◌, length, map, Option, Some, Result, Ok, Err, slice_get, slice_set}
use Rattle.llb_wire.specs.CallResults as answer
use Rattle.llb_cache.specs.LeaseAdditions.{LentValue}
use Rattle.llb_tree.specs.Tree.{TreeMap}
use Rattle.llb_execution.specs.SavedWorkspaces.{Saved, put_back}
use Rattle.llb_execution.specs.ModelValues.{mounts_in}
use Rattle.llb_model.specs.Caches.{Instance}
use Rattle.llb_model.specs.TwoCacheModels.{store_of}
use Rattle.llb_model.specs.Program.{key_of}
use Rattle.llb_model.specs.State.{Status, Waiting, Running, Execution, Idle, Runs}
use Rattle.llb_model.specs.Table as table
use Rattle.llb_events.specs.declared.event.Event as own_event
use Rattle.llb_events.specs.declared.event.Event.TheVariants as event
use Rattle.llb_board.specs.OptionalLeases.{lent_of}
use Rattle.llb_board.specs.RunningWorkerSupplies.{supplies_for, mounts_at, needs_at}
use Rattle.llb_board.specs.WorkersKeptForUndo.{Back, Unclaim, Unstep, Resume, Displaced, walk_memory, end_of, workers_before, rows_before}
use Rattle.llb_board.specs.WorkerUndo.{Left}
use Rattle.llb_events.specs.declared.event.Stepped.TheVariants as stepped
use Rattle.llb_events.specs.declared.event.Settled.TheVariants as settled
use Rattle.llb_board.specs.declared.fault.WalkFault.{WalkFault}
use Rattle.llb_board.specs.declared.fault.WalkFault.TheVariants as walk
use Rattle.llb_board.specs.BoardValue.{BoardValue, Replays}
use Rattle.llb_board.specs.History.{front}
use Rattle.llb_board.specs.EventResults.{claim_of, step_of, settle_of, cancel_of}
use Rattle.llb_board.specs.declared.board.undoable_event.Reply.{Reply}
use Rattle.llb_board.specs.declared.board.undoable_event.Reply.TheVariants as reply

-- ---- the result of `walk`

-- a reply of the table as a reply of `walk`: the same, except that the reply to a claim has no job
abbrev pub told : table.Reply → Reply
told (table.Claimed job) = reply.Claimed
told (table.HasStepped s) = reply.Stepped s
told (table.HasSettled s) = reply.Settled s
told (table.HasCancelled c) = reply.Cancelled c

-- the result of an event as a result of `walk`, with its reply and its fault converted
abbrev pub told_as : {F : Type 0} → (F → WalkFault) → Result (BoardValue × table.Reply) F → Result (BoardValue × Reply) WalkFault
told_as fault (Ok (b, r)) = Ok (b, told r)
told_as fault (Err e) = Err (fault e)

-- what `walk` returns for an event if memory suffices: the board and the reply, or the fault of the claim, the step, the settle or the cancel
abbrev pub walk_of : BoardValue → own_event.Event → Result (BoardValue × Reply) WalkFault
walk_of b (event.Claim w v) = told_as walk.Claim (claim_of b w v)
walk_of b (event.Step w) = told_as walk.Step (step_of b w)
walk_of b (event.Settle w) = told_as walk.Settle (settle_of b w)
walk_of b (event.Cancel w) = told_as walk.Cancel (cancel_of b w)

-- `walk` returns what `walk_of` says, or it fails for want of memory
abbrev pub GivesWalk : {X Y : Type 0} → (X → Y) → Result X WalkFault → Result Y WalkFault → Type 0
GivesWalk = answer.Gives walk_memory

-- ---- the board before the event

-- the statuses of the vertices before an event, given what the event displaced (`Back`) and the statuses after it
abbrev pub statuses_before : Back → List Status → List Status
statuses_before (Unclaim w v growths) statuses = slice_set statuses v Waiting
statuses_before (Unstep w saved trees) statuses = statuses
statuses_before (Resume e w left lent) statuses = slice_set statuses left.execution.vertex (Running w)

-- board b before its last event, if `u` has what is needed to take this event back
abbrev pub undone : Displaced → BoardValue → BoardValue
undone u b = record b {
  state = record {
    statuses = statuses_before u.back b.state.statuses;
    workers = workers_before u.back b.state.workers;
    store = store_of (rows_before u.back b.state.workers b.rows);
  };
  rows = rows_before u.back b.state.workers b.rows;
  events = front b.events;
}

-- ---- when an event can be taken back

-- the event that is taken back
abbrev pub event_before : Back → own_event.Event
event_before (Unclaim w v growths) = event.Claim w v
event_before (Unstep w saved trees) = event.Step w
event_before (Resume e w left lent) = end_of e w

-- the event that is taken back is the last event of b's record; the table grants this event on the board before the event, and the result is the state of b
pub record IsLast (u : Displaced) (b : BoardValue) : Type 0 where
  pub reply : table.Reply
  pub gives : table.table b.build (undone u b).state (event_before u.back) ≡ Some (b.state, reply)
  pub events : b.events ≡ (undone u b).events ++ event_before u.back ∷ []

-- The next three definitions say that the worker and its vertex are in the condition in which the event left them, and that what is put back fits the vertex.
-- After a claim: worker w runs vertex v.
pub record IsBegun (b : BoardValue) (w v : ℕ) : Type 0 where
  pub runs : slice_get b.state.statuses v ≡ Some (Running w)

-- after a step: worker w runs a vertex v; with `saved` put back, w's workspace has as many mounts as v; w's instances have v's keys, and each a tree in `trees`
pub record IsStepped (b : BoardValue) (w : ℕ) (saved : Saved) (trees : List TreeMap) : Type 0 where
  pub x : Execution
  pub runs : slice_get b.state.workers w ≡ Some (Runs x)
  pub mounts : mounts_in (put_back saved x.own) ≡ length (mounts_at (slice_get b.build.graph.vertices x.vertex))
  pub count : length trees ≡ length x.places
  pub keys : map (λ (p : Instance). p.key) x.places ≡ map key_of (needs_at (slice_get b.build.graph.vertices x.vertex))

-- after a settle or cancel: worker w is idle; `left` has the supplies and keys of the vertex that w ran; `lent` is a prepared lease of the vertex's instances
pub record IsLeft (b : BoardValue) (w : ℕ) (left : Left) (lent : Option LentValue) : Type 0 where
  pub idle : slice_get b.state.workers w ≡ Some Idle
  pub supplies : left.supplies ≡ supplies_for (slice_get b.build.graph.vertices left.execution.vertex)
  pub keys : map (λ (p : Instance). p.key) left.execution.places ≡ left.supplies.keys
  pub ready : lent ≡ lent_of left.execution.places (length b.state.workers + 1)

-- worker and vertex are as the event left them, and what is put back fits: `IsBegun` after a claim, `IsStepped` after a step, `IsLeft` after a settle or cancel
abbrev pub StandsBehind : Back → BoardValue → Type 0
StandsBehind (Unclaim w v growths) b = IsBegun b w v
StandsBehind (Unstep w saved trees) b = IsStepped b w saved trees
StandsBehind (Resume e w left lent) b = IsLeft b w left lent

-- u's event is the last of b's record; the events before it lead to the board before it (`Replays`); worker and vertex are as it left them (`StandsBehind`)
pub record CanUndo (u : Displaced) (b : BoardValue) : Type 0 where
  pub replays : Replays (undone u b)
  pub last : IsLast u b
  pub stands : StandsBehind u.back b
