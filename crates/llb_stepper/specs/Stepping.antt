-- The value of a stepper in contracts, and what the stepper's calls do: do one event, take one event back, or do events up to a stop.
use Rattle.std.specs.Prelude.{◌≡◌, ℕ, zero, suc, ◌+◌, ◌-◌, slice_get, ◌<◌, ◌==◌, nat_lt, if◌then◌else◌, Bool, true, false, List, []}
use Rattle.std.specs.Prelude.{◌∷◌, length, take, drop, Option, Some, None, option_map}
use Rattle.std.specs.List.{list_any}
use Rattle.llb_events.specs.declared.event.Settled.TheVariants as ended
use Rattle.llb_events.specs.declared.event.Event.{Event}
use Rattle.llb_events.specs.declared.event.Event.TheVariants.{Claim, Step, Settle, Cancel}
use Rattle.llb_model.specs.Table.{Reply, Claimed, HasStepped, HasSettled, HasCancelled, table}
use Rattle.llb_model.specs.State.{State, opening}
use Rattle.llb_model.specs.Run.{chosen}
use Rattle.llb_board.specs.BoardValue.{BoardValue, after_event}
use Rattle.llb_stepper.specs.declared.stop.Break.{Break}
use Rattle.llb_stepper.specs.declared.stop.Break.TheVariants as stop
use Rattle.llb_stepper.specs.declared.stop.Stop.{Stop}

-- a stepper: its board; the board before each event that the stepper did, the latest first; and its breakpoints
pub record Stepping : Type 0 where
  pub board : BoardValue
  pub past : List BoardValue
  pub breaks : List Break

-- ---- one event

-- the board after an event, and the table's reply to the event; nothing if the table refuses the event
abbrev pub answered : BoardValue → Event → Option (BoardValue × Reply)
answered b e = option_map (λ (a : State × Reply). (after_event b e a.0, a.1)) (table b.build b.state e)

-- the stepper after an event: it is on the new board, and remembers the board before the event
abbrev pub onward : Stepping → BoardValue → Stepping
onward s b = record s { board = b; past = s.board ∷ s.past }

-- the lesser of two numbers
abbrev pub lesser : ℕ → ℕ → ℕ
lesser a b = if nat_lt a b then a else b

-- t is the stepper after the last event of s is taken back: it has the same graph, local trees and breakpoints as s
pub record GoesBack (s t : Stepping) : Type 0 where
  pub past : s.past ≡ t.board ∷ t.past
  pub build : t.board.build ≡ s.board.build
  pub breaks : t.breaks ≡ s.breaks

-- ---- breakpoints

-- whether an event is a claim of vertex v
abbrev pub claims : ℕ → Event → Bool
claims v (Claim w u) = u == v
claims v (Step w) = false
claims v (Settle w) = false
claims v (Cancel w) = false

-- whether a reply is the reply to a settle of vertex v
abbrev pub settles : ℕ → Reply → Bool
settles v (HasSettled (ended.Done u)) = u == v
settles v (HasSettled (ended.Failed u)) = u == v
settles v (Claimed job) = false
settles v (HasStepped s) = false
settles v (HasCancelled c) = false

-- whether a reply is the reply to a settle of a vertex that failed
abbrev pub has_failed : Reply → Bool
has_failed (HasSettled (ended.Failed u)) = true
has_failed (HasSettled (ended.Done u)) = false
has_failed (Claimed job) = false
has_failed (HasStepped s) = false
has_failed (HasCancelled c) = false

-- whether an event with its reply meets a breakpoint: it is a claim of the breakpoint's vertex, a settle of the breakpoint's vertex, or a settle of a failed
-- vertex
abbrev pub meets : Event → Reply → Break → Bool
meets e r (stop.Claims v) = claims v e
meets e r (stop.Settles v) = settles v r
meets e r stop.Fails = has_failed r

-- whether an event meets one of the breakpoints, given the board and the reply to which it leads; false for a refused event, which leads to no board
abbrev pub meets_by : List Break → Event → Option (BoardValue × Reply) → Bool
meets_by breaks e None = false
meets_by breaks e (Some p) = list_any (meets e p.1) breaks

-- whether an event that is done on a board meets one of the breakpoints
abbrev pub meets_any : List Break → BoardValue → Event → Bool
meets_any breaks b e = meets_by breaks e (answered b e)

-- ---- lists of events

-- the function `go` applied to the board after an event; nothing if the event was refused
abbrev pub then_on : Option (BoardValue × Reply) → (BoardValue → Option BoardValue) → Option BoardValue
then_on None go = None
then_on (Some p) go = go p.0

-- the board after a list of events; nothing if one of the events is refused
unfoldable pub run_on : BoardValue → List Event → Option BoardValue
run_on b [] = Some b
run_on b (e ∷ es) = then_on (answered b e) (λ c. run_on c es)

-- whether the board after an event passes the test `go`; false if the event was refused
abbrev pub meets_from : Option (BoardValue × Reply) → (BoardValue → Bool) → Bool
meets_from None go = false
meets_from (Some p) go = go p.0

-- whether event k of a list, counted from 0, meets a breakpoint after the events before it; false if there is no event k, or if event k or an event before it
-- is refused
unfoldable pub meets_at : List Break → BoardValue → List Event → ℕ → Bool
meets_at breaks b [] k = false
meets_at breaks b (e ∷ es) zero = meets_any breaks b e
meets_at breaks b (e ∷ es) (suc k) = meets_from (answered b e) (λ c. meets_at breaks c es k)

-- the board as it was opened, before any event
abbrev pub at_first : BoardValue → BoardValue
at_first b = record b { state = opening b.build b.opening; rows = b.first; events = [] }

-- the events of a board's record, done one by one on that board as it was opened, lead to the board
abbrev pub IsReplayed : BoardValue → Type 0
IsReplayed b = run_on (at_first b) b.events ≡ Some b

-- Board k of the list `past` (the earlier boards, the latest first), counted from 0, is the board after all events of the record but the last k + 1.
abbrev pub PastIsTheRecords : Stepping → Type 0
PastIsTheRecords s = (k : ℕ) (c : BoardValue) → slice_get s.past k ≡ Some c
    → run_on (at_first s.board) (take (length s.board.events - (k + 1)) s.board.events) ≡ Some c

-- the present board and the boards before it, the latest first
abbrev pub timeline : Stepping → List BoardValue
timeline s = s.board ∷ s.past

-- If the flag is true, event n of the list, counted from 1, meets a breakpoint; if it is false, the list has n events, and none of them meets a breakpoint.
abbrev pub EndsAt : Bool → List Break → BoardValue → List Event → ℕ → Type 0
EndsAt true breaks b es n = (k : ℕ) × ((n ≡ k + 1) × (meets_at breaks b es k ≡ true))
EndsAt false breaks b es n = (n ≡ length es) × ((k : ℕ) → k < n → meets_at breaks b es k ≡ false)

-- Stepper t is s after some events of a list: all events up to and with the first that meets a breakpoint, or the whole list if no event meets a breakpoint.
-- The breakpoints of t are those of s.
pub record IsStop (s : Stepping) (es : List Event) (t : Stepping) (p : Stop) : Type 0 where
  pub leads : run_on s.board (take p.events es) ≡ Some t.board
  pub past : drop p.events (timeline t) ≡ timeline s
  pub build : t.board.build ≡ s.board.build
  pub records : PastIsTheRecords t
  pub breaks : t.breaks ≡ s.breaks
  pub shortest : (k : ℕ) → k + 1 < p.events → meets_at s.breaks s.board es k ≡ false
  pub ends : EndsAt p.at_break s.breaks s.board es p.events

-- the event was granted, and the board after the event has the property `Are`
abbrev pub ChosenThen : Option (BoardValue × Reply) → (BoardValue → Type 0) → Type 0
ChosenThen None Are = ⊥
ChosenThen (Some p) Are = Are p.0

-- each event of the list is granted, and is the event that `chosen` of llb_model returns for the board before the event
unfoldable pub AreChosen : BoardValue → List Event → Type 0
AreChosen b [] = Unit {0}
AreChosen b (e ∷ es) = (chosen b.build b.state ≡ Some e) × ChosenThen (answered b e) (λ c. AreChosen c es)

-- Stepper t is s after a `go`: events were done, each of which `chosen` returned, up to a stop. If no breakpoint was met, `chosen` returns none on t's board.
pub record IsGo (s t : Stepping) (p : Stop) : Type 0 where
  pub events : List Event
  pub are : AreChosen s.board events
  pub stop : IsStop s events t p
  pub ends : p.at_break ≡ false → chosen t.board.build t.board.state ≡ None
