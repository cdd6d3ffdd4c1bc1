-- The lines of a record: a line has the number of an event, counted from 1, the event, and the reply to it.
use Rattle.std.specs.Prelude.{◌≡◌, ◌≤◌, ◌<◌, ◌+◌, ℕ, ◌-◌, ◌&&◌, nat_le, List, [], ◌++◌, length, codes, Option, Some, None, option_map, slice_get, if◌then◌else◌}
use Rattle.std.specs.Fmt.{decimal}
use Rattle.llb_ops.specs.OpKindNames.{kind_text}
use Rattle.llb_loader.specs.declared.graph.Vertex.{Vertex}
use Rattle.llb_events.specs.declared.event.Settled.TheVariants as ended
use Rattle.llb_events.specs.declared.event.Settled.{Settled}
use Rattle.llb_events.specs.declared.event.Stepped.{Stepped}
use Rattle.llb_events.specs.declared.event.Stepped.TheVariants.{Read, Acted, Merged, Ran, Skipped, Fault}
use Rattle.llb_events.specs.declared.fault.VertexFault.{VertexFault}
use Rattle.llb_events.specs.declared.fault.VertexFault.TheVariants as vertex
use Rattle.llb_model.specs.State.{State, opening}
use Rattle.llb_model.specs.Run.{run}
use Rattle.llb_events.specs.declared.event.Event.{Event}
use Rattle.llb_events.specs.declared.event.Event.TheVariants.{Claim, Step, Settle, Cancel}
use Rattle.llb_model.specs.Table.{Reply, Claimed, HasStepped, HasSettled, HasCancelled}
use Rattle.llb_board.specs.BoardValue.{BoardValue, replies_in}
use Rattle.llb_stepper.specs.declared.stop.Stop.{Stop}
use Rattle.llb_stepper.specs.Stepping.{Stepping, IsStop, answered, at_first}

-- the text that is printed for an event
abbrev pub event_text : Event → List ℕ
event_text (Claim w v) = codes "claim " ++ (decimal w ++ (codes " " ++ decimal v))
event_text (Step w) = codes "step " ++ decimal w
event_text (Settle w) = codes "settle " ++ decimal w
event_text (Cancel w) = codes "cancel " ++ decimal w

-- the text that is printed for the reply to a settle of a vertex that is done
abbrev pub done_text : ℕ → List ℕ
done_text v = decimal v ++ codes " done"

-- the text that is printed for the reply to a settle of a vertex that failed
abbrev pub failed_text : ℕ → List ℕ
failed_text v = decimal v ++ codes " failed"

-- the text of two numbers with a space between them
abbrev pub pair_text : ℕ → ℕ → List ℕ
pair_text a b = decimal a ++ (codes " " ++ decimal b)

-- the text for a micro-step that failed: `fault`, the action's number and the number of its fault; or `ran`, the command's number and its status
abbrev pub fault_text : VertexFault → List ℕ
fault_text (vertex.Action a n) = codes "fault " ++ pair_text a n
fault_text (vertex.Exit c s) = codes "ran " ++ pair_text c s

-- the text for a claimed vertex: the kind of the vertex's op, and how many micro-steps the vertex has; `none` if there is no vertex
abbrev pub claimed_text : Option Vertex → List ℕ
claimed_text (Some v) = kind_text v.op.kind ++ (codes " " ++ decimal v.steps)
claimed_text None = codes "none"

-- the vertex of a claim; 0 for any other event, for which the result is not used
abbrev pub vertex_of : Event → ℕ
vertex_of (Claim w v) = v
vertex_of (Step w) = 0
vertex_of (Settle w) = 0
vertex_of (Cancel w) = 0

-- the text that is printed for the reply to a step
abbrev pub step_text : Stepped → List ℕ
step_text Read = codes "read"
step_text (Acted a) = codes "acted " ++ decimal a
step_text (Merged i) = codes "merged " ++ decimal i
step_text (Ran c status) = codes "ran " ++ pair_text c status
step_text (Skipped c) = codes "skipped " ++ decimal c
step_text (Fault f) = fault_text f

-- the text that is printed for the reply to a settle
abbrev pub settle_text : Settled → List ℕ
settle_text (ended.Done v) = done_text v
settle_text (ended.Failed v) = failed_text v

-- the text that is printed for the reply to an event; for a claim, the kind of the claimed vertex's op and the vertex's number of micro-steps
abbrev pub reply_text : List Vertex → Event → Reply → List ℕ
reply_text vertices e (Claimed job) = claimed_text (slice_get vertices (vertex_of e))
reply_text vertices e (HasStepped s) = step_text s
reply_text vertices e (HasSettled s) = settle_text s
reply_text vertices e (HasCancelled c) = pair_text c.vertex c.done

-- the line of an event without its line end: its number, the event, ` -> ` and the reply
abbrev pub record_text : List Vertex → ℕ → Event × Reply → List ℕ
record_text vertices number p = decimal number ++ (codes " " ++ (event_text p.0 ++ (codes " -> " ++ reply_text vertices p.0 p.1)))

-- an event, with the table's reply to it on a board; none if there is no board or no event, or if the event is refused
abbrev pub replied : Option BoardValue → Option Event → Option (Event × Reply)
replied None e = None
replied (Some b) None = None
replied (Some b) (Some e) = option_map (λ (p : BoardValue × Reply). (e, p.1)) (answered b e)

-- event i of the board's record, counted from 1, with its reply; none if there is no event i, or if the board had event i when the stepper was made
abbrev pub record_at : Stepping → ℕ → Option (Event × Reply)
record_at s i =
    if nat_le 1 i && nat_le i (length s.board.events) then replied (slice_get s.past (length s.board.events - i)) (slice_get s.board.events (i - 1)) else None

-- If `record_at` returns an event and a reply for number i, they are event i of the record, and the reply to it in the run of the whole record from the board's
-- opening. And `record_at` returns an event and a reply for the number of each event that the stepper did.
pub record RecordIsTheRun (s : Stepping) : Type 0 where
  pub sound : (i : ℕ) (e : Event) (r : Reply) (t : State) (replies : List Reply)
      → run s.board.build (opening s.board.build s.board.opening) s.board.events ≡ Some (t, replies) → record_at s i ≡ Some (e, r)
      → (slice_get s.board.events (i - 1) ≡ Some e) × (slice_get replies (i - 1) ≡ Some r)
  pub complete : (i : ℕ) (e : Event) (r : Reply) (t : State) (replies : List Reply)
      → run s.board.build (opening s.board.build s.board.opening) s.board.events ≡ Some (t, replies) → 1 ≤ i → length s.board.events < i + length s.past
      → slice_get s.board.events (i - 1) ≡ Some e → slice_get replies (i - 1) ≡ Some r → record_at s i ≡ Some (e, r)

-- Stepper t has done the whole record of board b: the board of t is b, and the lines of t are the events of the record with their replies.
pub record HasRun (b : BoardValue) (t : Stepping) : Type 0 where
  pub leads : t.board ≡ b
  pub lines : (i : ℕ) (e : Event) (r : Reply) → slice_get b.events i ≡ Some e → slice_get (replies_in b) i ≡ Some r → record_at t (i + 1) ≡ Some (e, r)

-- However the events of board b were done: a stepper without breakpoints that starts on b as it was opened, and replays b's record, does the whole record.
abbrev pub ReplaysOnAStepper : BoardValue → Type 0
ReplaysOnAStepper b = (s t : Stepping) (p : Stop) → s.board ≡ at_first b → s.breaks ≡ [] → IsStop s b.events t p → HasRun b t
