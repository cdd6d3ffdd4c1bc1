-- What workers that share one lock may do to a board.
use Rattle.std.specs.Prelude.{◌≡◌, ℕ, ◌+◌, ◌++◌, Bool, true, false, List, [], length, take, drop, sum, count_by, slice_get, Some, None, option_map}
use Rattle.llb_model.specs.Program.{Build}
use Rattle.llb_model.specs.State.{State, runs}
use Rattle.llb_events.specs.declared.event.Event.{Event}
use Rattle.llb_events.specs.declared.event.Event.TheVariants.{Claim, Step, Settle, Cancel}
use Rattle.llb_model.specs.Table.{Reply}
use Rattle.llb_model.specs.Run.{run}
use Rattle.llb_board.specs.BoardValue.{BoardValue, opened}

-- `new` is the board `old` after events that are granted one after another, and are appended to its record
pub record GoesOn (old new : BoardValue) : Type 0 where
  pub build : new.build ≡ old.build
  pub opening : new.opening ≡ old.opening
  pub first : new.first ≡ old.first
  pub more : List Event
  pub replies : List Reply
  pub leads : run old.build old.state more ≡ Some (new.state, replies)
  pub events : new.events ≡ old.events ++ more

-- the state in the result of a run of events
abbrev pub state_in : State × List Reply → State
state_in a = a.0

-- as `GoesOn`, but stated by equations alone: the record of `start` is a prefix of the record of `found`, and the further events lead to the state of `found`
pub record IsAfter (start found : BoardValue) : Type 0 where
  pub build : found.build ≡ start.build
  pub opening : found.opening ≡ start.opening
  pub first : found.first ≡ start.first
  pub front : take (length start.events) found.events ≡ start.events
  pub leads : option_map state_in (run start.build start.state (drop (length start.events) found.events)) ≡ Some found.state

-- the sum of the workers' counts is the number of events by which the record of the board `new` is longer than that of `old`
abbrev pub Counts : List ℕ → BoardValue → BoardValue → Type 0
Counts made old new = sum made + length old.events ≡ length new.events

-- whether an event is a cancel
abbrev pub is_cancel : Event → Bool
is_cancel (Claim w v) = false
is_cancel (Step w) = false
is_cancel (Settle w) = false
is_cancel (Cancel w) = true

-- the record of the board `new` has as many cancels as the record of `old`
abbrev pub CancelsNothing : BoardValue → BoardValue → Type 0
CancelsNothing old new = count_by is_cancel new.events ≡ count_by is_cancel old.events

-- no worker runs anything, so no worker holds an instance of a cache
abbrev pub AreIdle : State → Type 0
AreIdle s = (w : ℕ) → runs (slice_get s.workers w) ≡ None

-- a build without vertices and without local trees: the build of the board `nothing` below
abbrev pub no_build : Build
no_build = record { graph = record { vertices = []; result = record { vertex = 0; index = 0 } }; locals = [] }

-- a board without vertices and workers: the value that is used where no board is given
abbrev pub nothing : BoardValue
nothing = opened no_build 0 []
