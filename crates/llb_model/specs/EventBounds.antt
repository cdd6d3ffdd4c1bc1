-- How many events can still come, how many events a whole run can have, and how much room the record of a run needs.
use Rattle.std.specs.Prelude.{ℕ, zero, suc, ◌+◌, ◌-◌, ◌*◌, ◌==◌, Bool, false, List, [], ◌∷◌, length, count_by, Option, Some, None, slice_get}
use Rattle.llb_loader.specs.declared.graph.Vertex.{Vertex}
use Rattle.llb_model.specs.Program.{Build, program_of}
use Rattle.llb_model.specs.State.{Status, Waiting, Running, Settled, WorkerStatus, Idle, Runs, State, program_in}
use Rattle.llb_events.specs.declared.event.Event.{Event}
use Rattle.llb_events.specs.declared.event.Event.TheVariants.{Claim, Step, Settle, Cancel}
use Rattle.llb_model.specs.Table.{HasStepped, HasSettled, HasCancelled}
use Rattle.llb_model.specs.Table.{Reply, Claimed}

-- the most events that one claim of a vertex can lead to: the claim itself, the vertex's micro-steps, and its settle
abbrev pub events_of : Vertex → ℕ
events_of v = length (program_of v).steps + 2

-- whether a reply is the reply to a cancel of vertex v
abbrev pub is_cancel_of : ℕ → Reply → Bool
is_cancel_of v (Claimed job) = false
is_cancel_of v (HasStepped r) = false
is_cancel_of v (HasSettled r) = false
is_cancel_of v (HasCancelled r) = r.vertex == v

-- how often vertex v was cancelled, as these replies say
abbrev pub cancels_in : ℕ → List Reply → ℕ
cancels_in v rs = count_by (is_cancel_of v) rs

-- how often each of these vertices, which are numbered from k, was cancelled
abbrev pub counts_from : ℕ → List Vertex → List Reply → List ℕ
counts_from k [] rs = []
counts_from k (v ∷ vs) rs = cancels_in k rs ∷ counts_from (k + 1) vs rs

-- how often each vertex was cancelled
abbrev pub cancel_counts : Build → List Reply → List ℕ
cancel_counts b rs = counts_from 0 b.graph.vertices rs

-- the most events of a run for the vertices from number k up: the sum over these vertices of (most events of one claim) times (1 + number of cancels)
abbrev pub most_from : ℕ → List Vertex → List Reply → ℕ
most_from k [] rs = 0
most_from k (v ∷ vs) rs = events_of v * (1 + cancels_in k rs) + most_from (k + 1) vs rs

-- the most events that a whole run can have, given the replies so far: each cancel among them allows further events
abbrev pub most_events : Build → List Reply → ℕ
most_events b rs = most_from 0 b.graph.vertices rs

-- the most events still to come for a vertex that waits; 0 for a vertex that runs or is settled
abbrev pub to_come : Vertex → Status → ℕ
to_come v Waiting = events_of v
to_come v (Running w) = 0
to_come v (Settled e) = 0

-- the most events still to come for all vertices that wait: the sum of `to_come` over the vertices
abbrev pub all_to_come : List Vertex → List Status → ℕ
all_to_come [] statuses = 0
all_to_come (v ∷ vs) [] = 0
all_to_come (v ∷ vs) (s ∷ statuses) = to_come v s + all_to_come vs statuses

-- the most events still to come for a worker: its remaining micro-steps and its settle; 0 for an idle worker
abbrev pub left_by : Build → WorkerStatus → ℕ
left_by b Idle = 0
left_by b (Runs x) = (length (program_in b x).steps - x.done) + 1

-- the most events still to come for the workers
abbrev pub all_left : Build → List WorkerStatus → ℕ
all_left b [] = 0
all_left b (a ∷ workers) = left_by b a + all_left b workers

-- the most events still to come, if none of them is a cancel
abbrev pub still_to_come : Build → State → ℕ
still_to_come b s = all_to_come b.graph.vertices s.statuses + all_left b s.workers

-- ---- room in the record

-- for how many events the next claim of a vertex reserves room in the record: for all events of the claim if the vertex waits after a cancel, else for none
abbrev pub owed_by : Vertex → Status → ℕ → ℕ
owed_by v Waiting zero = 0
owed_by v Waiting (suc n) = events_of v
owed_by v (Running w) n = 0
owed_by v (Settled e) n = 0

-- the total room, in events, that is reserved by the next claims of the vertices whose numbers are k or above
abbrev pub owed_from : ℕ → List Vertex → List Status → List Reply → ℕ
owed_from k [] statuses rs = 0
owed_from k (v ∷ vs) [] rs = 0
owed_from k (v ∷ vs) (s ∷ statuses) rs = owed_by v s (cancels_in k rs) + owed_from (k + 1) vs statuses rs

-- the sum of the room in the record, in events, that the next claims of all vertices reserve
abbrev pub owed : Build → List Status → List Reply → ℕ
owed b statuses rs = owed_from 0 b.graph.vertices statuses rs

-- for how many events the claim of a waiting vertex reserves room in the record, if the vertex was cancelled n times before; 0 if there is no vertex
abbrev pub owed_at : Option Vertex → ℕ → ℕ
owed_at None n = 0
owed_at (Some v) n = owed_by v Waiting n

-- for how many further events an event makes room in the record, after these replies: 0, except for the claim of a vertex that was cancelled before
abbrev pub room_taken : Build → List Reply → Event → ℕ
room_taken b rs (Claim w v) = owed_at (slice_get b.graph.vertices v) (cancels_in v rs)
room_taken b rs (Step w) = 0
room_taken b rs (Settle w) = 0
room_taken b rs (Cancel w) = 0
