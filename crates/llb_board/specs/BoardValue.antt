-- A board as contracts see it: what it was opened with, the machine's state, and the record; and the board after an event.
use Rattle.std.specs.Prelude.{◌≡◌, ℕ, List, [], ◌∷◌, ◌++◌, length, fold, option_map, Option, Some, None, Result, Ok, Err, unwrap_or}
use Rattle.llb_model.specs.Program.{Build}
use Rattle.llb_cache.specs.Caches.{Row}
use Rattle.llb_model.specs.TwoCacheModels.{store_of, rows_after}
use Rattle.llb_model.specs.State.{State, Opening, opening}
use Rattle.llb_events.specs.declared.event.Event.{Event}
use Rattle.llb_model.specs.Table.{Reply, worker_of, table}
use Rattle.llb_model.specs.Run.{run}
use Rattle.llb_board.specs.Vertices.{VerticesValue}
use Rattle.llb_board.specs.Workers.{WorkersValue, state_in}

-- what contracts see of a board: its build (the graph and its local trees); what it was opened with; the rows of the caches, with which it was opened
-- (`first`) and as they are now (`rows`); the machine's state, which has the trees of the caches too; and the events so far
pub record BoardValue : Type 0 where
  pub build : Build
  pub opening : Opening
  pub first : List Row
  pub state : State
  pub rows : List Row
  pub events : List Event

-- what a board is opened with: this number of workers, and the trees of the caches, which these rows have
abbrev pub opening_with : ℕ → List Row → Opening
opening_with workers rows = record { workers = workers; store = store_of rows }

-- what contracts see of a board with these vertices, workers and events; `first` has the rows of the caches with which the board was opened
abbrev pub seen : VerticesValue → List Row → WorkersValue → List Event → BoardValue
seen vs first ws events = record {
  build = vs.build;
  opening = opening_with (length ws.workers) first;
  first = first;
  state = state_in vs ws;
  rows = ws.rows;
  events = events;
}

-- a board on which no event has happened yet
abbrev pub opened : Build → ℕ → List Row → BoardValue
opened b workers rows =
    record { build = b; opening = opening_with workers rows; first = rows; state = opening b (opening_with workers rows); rows = rows; events = [] }

-- the state, and the rows of the caches, after one more event, if the table grants this event
abbrev pub kept_next : Build → Option (State × List Row) → Event → Option (State × List Row)
kept_next b None e = None
kept_next b (Some (s, rows)) e = option_map (λ (a : State × Reply). (a.0, rows_after rows a.0 (worker_of e))) (table b s e)

-- the state, and the rows of the caches, after a list of events, if the table grants each of them
abbrev pub kept_along : Build → State → List Row → List Event → Option (State × List Row)
kept_along b s rows es = fold (kept_next b) (Some (s, rows)) es

-- The table replays the record from the opening state to the board's state. The record's events turn the rows of the caches with which the board was opened
-- into the rows that the board has now.
pub record Replays (b : BoardValue) : Type 0 where
  pub replies : List Reply
  pub leads : run b.build (opening b.build b.opening) b.events ≡ Some (b.state, replies)
  pub keeps : kept_along b.build (opening b.build b.opening) b.first b.events ≡ Some (b.state, b.rows)

-- the board after event e, which leads to state s
abbrev pub after_event : BoardValue → Event → State → BoardValue
after_event b e s = record b { state = s; rows = rows_after b.rows s (worker_of e); events = b.events ++ e ∷ [] }

-- the board after an event, with the event appended to the record, and the reply; or, if the event is refused, the cause as a fault
abbrev pub recorded : {F : Type 0} → BoardValue → Event → Result (State × Reply) F → Result (BoardValue × Reply) F
recorded b e (Ok (s, r)) = Ok (after_event b e s, r)
recorded b e (Err cause) = Err cause

-- the replies to the events of the record
abbrev pub replies_in : BoardValue → List Reply
replies_in b = unwrap_or (option_map (λ (a : State × List Reply). a.1) (run b.build (opening b.build b.opening) b.events)) []
