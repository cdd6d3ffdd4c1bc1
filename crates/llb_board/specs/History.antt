-- The record of events, the room reserved for more, and how often each vertex was cancelled, as contracts see them.
use Rattle.std.specs.Prelude.{ℕ, zero, suc, ◌+◌, ◌-◌, List, length, take, Option, Some, None, get_or, slice_get, slice_set}
use Rattle.llb_events.specs.declared.event.Event.{Event}
use Rattle.llb_events.specs.declared.event.Event.TheVariants.{Claim, Step, Settle, Cancel}

-- the events so far, and the number of events for which memory is reserved, the events so far included
pub record Recorded : Type 0 where
  pub list : List Event
  pub room : ℕ

-- the number of events for which memory is reserved, and for each vertex how often it was cancelled
pub record Space : Type 0 where
  pub room : ℕ
  pub cancels : List ℕ

-- the events in order, for how many events memory is reserved, and for each vertex how often it was cancelled
pub record HistoryValue : Type 0 where
  pub list : List Event
  pub space : Space

-- the room, in events, that a claim of a vertex reserves, if the vertex takes at most `events` events and was cancelled n times: `events`, but 0 if n is 0
abbrev pub taken : ℕ → ℕ → ℕ
taken events zero = 0
taken events (suc n) = events

-- the room that a claim of vertex v reserves: if v was cancelled before, room for `events` (the most events that the claim can lead to); else 0
abbrev pub taken_by : ℕ → ℕ → Space → ℕ
taken_by v events s = taken events (get_or s.cancels v 0)

-- the room that is reserved for events after a claim of vertex v, if the vertex takes at most `events` events
abbrev pub claimed : ℕ → ℕ → Space → Space
claimed v events s = record s { room = s.room + taken_by v events s }

-- the reserved room, as a number of events, after a claim of vertex v is taken back
abbrev pub unclaimed : ℕ → ℕ → Space → Space
unclaimed v events s = record s { room = s.room - taken_by v events s }

-- the reserved room, and how often each vertex was cancelled, after a cancel of vertex v: the number for v is greater by 1
abbrev pub cancelled : ℕ → Space → Space
cancelled v s = record s { cancels = slice_set s.cancels v (get_or s.cancels v 0 + 1) }

-- the reserved room, and how often each vertex was cancelled, after a cancel of vertex v is taken back: the number for v is lower by 1
abbrev pub uncancelled : ℕ → Space → Space
uncancelled v s = record s { cancels = slice_set s.cancels v (get_or s.cancels v 0 - 1) }

-- ---- the last event taken back

-- the list without its last item
abbrev pub front : {A : Type 0} → List A → List A
front xs = take (length xs - 1) xs

-- the last item of a list
abbrev pub last_of : {A : Type 0} → List A → Option A
last_of xs = slice_get xs (length xs - 1)

-- the reserved room (in events) and the counts of cancels before the last event: what this event of vertex v added is subtracted from those after the event
abbrev pub space_back : Option Event → ℕ → ℕ → Space → Space
space_back (Some (Claim w u)) v events s = unclaimed v events s
space_back (Some (Step w)) v events s = s
space_back (Some (Settle w)) v events s = s
space_back (Some (Cancel w)) v events s = uncancelled v s
space_back None v events s = s
