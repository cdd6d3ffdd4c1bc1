-- What a session's `go` prints, in terms of the events and replies of the run of the whole record.
use Rattle.std.specs.Prelude.{◌≡◌, ◌<◌, ◌-◌, ◌++◌, ℕ, Bool, List, length, codes, Some, slice_get}
use Rattle.llb_model.specs.State.{opening}
use Rattle.llb_events.specs.declared.event.Event.{Event}
use Rattle.llb_model.specs.Table.{Reply}
use Rattle.llb_model.specs.Run.{run}
use Rattle.llb_stepper.specs.Records.{record_text}
use Rattle.llb_stepper.specs.Stepping.{Stepping}
use Rattle.llb_session.specs.LineReplies.{GrantsGo, stop_line}
use Rattle.llb_session.specs.PrintedTexts.{record_line, record_lines}

-- After a `go` from s to t: the record of t is a run from the board's opening to the board's state, and the line of each event that the `go` appended
-- has the event, its number, and its reply in that run.
pub record LinesOfTheRun (s t : Stepping) : Type 0 where
  pub replies : List Reply
  pub runs : run t.board.build (opening t.board.build t.board.opening) t.board.events ≡ Some (t.board.state, replies)
  pub each : (i : ℕ) (e : Event) (r : Reply) → length s.board.events < i → slice_get t.board.events (i - 1) ≡ Some e → slice_get replies (i - 1) ≡ Some r
      → record_line t i ≡ record_text t.board.build.graph.vertices i (e, r) ++ codes "\n"

-- The text has a line for each event that was appended to the record of s, with the event's reply in the run of t's whole record, and then the line
-- `stop` if the last of these events met a breakpoint (`at_break`), or else `end`.
pub record PrintsTheRun (s : Stepping) (text : List ℕ) (t : Stepping) (at_break : Bool) : Type 0 where
  pub lines : LinesOfTheRun s t
  pub printed : text ≡ record_lines t (length s.board.events) (length t.board.events - length s.board.events) ++ stop_line at_break

-- Whenever stepper s grants a `go`, the `go` prints a line for each event that it did, with the event's reply in the run of the whole record, and then the
-- line that says how the granted `go` stopped.
abbrev pub GoPrintsTheRun : Stepping → Type 0
GoPrintsTheRun s = (text : List ℕ) (t : Stepping) (granted : GrantsGo s text t) → PrintsTheRun s text t granted.stop.at_break
