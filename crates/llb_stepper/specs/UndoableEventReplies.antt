-- Breakpoints and lines, restated for the replies of the board's call `walk`, which does an event and also returns what undoes it. These replies are the
-- table's, except that the reply to a claim has no job.
use Rattle.std.specs.Prelude.{ℕ, ◌==◌, Bool, true, false, List, ◌++◌, codes, slice_get}
use Rattle.std.specs.Fmt.{decimal}
use Rattle.llb_loader.specs.declared.graph.Vertex.{Vertex}
use Rattle.llb_events.specs.declared.event.Event.{Event}
use Rattle.llb_model.specs.Table as table
use Rattle.llb_board.specs.UndoableEvents.{told}
use Rattle.llb_events.specs.declared.event.Settled.TheVariants as settled
use Rattle.llb_board.specs.declared.board.undoable_event.Reply.{Reply}
use Rattle.llb_board.specs.declared.board.undoable_event.Reply.TheVariants as reply
use Rattle.llb_stepper.specs.declared.stop.Break.{Break}
use Rattle.llb_stepper.specs.declared.stop.Break.TheVariants as stop
use Rattle.llb_stepper.specs.Stepping.{claims}
use Rattle.llb_stepper.specs.Records.{event_text, claimed_text, vertex_of, pair_text, step_text, settle_text}

-- whether a reply is the reply to a settle of vertex v
abbrev pub settles_told : ℕ → Reply → Bool
settles_told v (reply.Settled (settled.Done u)) = u == v
settles_told v (reply.Settled (settled.Failed u)) = u == v
settles_told v reply.Claimed = false
settles_told v (reply.Stepped s) = false
settles_told v (reply.Cancelled c) = false

-- whether a reply is the reply to a settle of a vertex that failed
abbrev pub failed_told : Reply → Bool
failed_told (reply.Settled (settled.Failed u)) = true
failed_told (reply.Settled (settled.Done u)) = false
failed_told reply.Claimed = false
failed_told (reply.Stepped s) = false
failed_told (reply.Cancelled c) = false

-- whether an event with its reply meets a breakpoint
abbrev pub meets_told : Event → Reply → Break → Bool
meets_told e r (stop.Claims v) = claims v e
meets_told e r (stop.Settles v) = settles_told v r
meets_told e r stop.Fails = failed_told r

-- the text for a reply of `Board::walk`, which does any one event; for a claim, the kind of the claimed vertex's op and the vertex's number of micro-steps
abbrev pub told_text : List Vertex → Event → Reply → List ℕ
told_text vertices e reply.Claimed = claimed_text (slice_get vertices (vertex_of e))
told_text vertices e (reply.Stepped s) = step_text s
told_text vertices e (reply.Settled s) = settle_text s
told_text vertices e (reply.Cancelled c) = pair_text c.vertex c.done

-- the line for an event and its reply, without a line end; the reply is the one that `walk` returns
abbrev pub line_text : List Vertex → ℕ → Event → Reply → List ℕ
line_text vertices number e r = decimal number ++ (codes " " ++ (event_text e ++ (codes " -> " ++ told_text vertices e r)))

-- an event with a reply of `walk`, made from the event and the table's reply
abbrev pub told_pair : Event × table.Reply → Event × Reply
told_pair p = (p.0, told p.1)
