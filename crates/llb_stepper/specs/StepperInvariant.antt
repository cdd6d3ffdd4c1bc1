-- The invariant of a stepper: each event that the stepper did can be taken back, and the stepper keeps the reply that the table gave to this event.
use Rattle.std.specs.Prelude.{◌≡◌, List, [], ◌∷◌, reverse, Some}
use Rattle.llb_events.specs.declared.event.Event.{Event}
use Rattle.llb_model.specs.Table.{Reply}
use Rattle.llb_board.specs.BoardValue.{BoardValue}
use Rattle.llb_board.specs.UndoableEvents.{told, undone, CanUndo}
use Rattle.llb_board.specs.declared.board.undoable_event.Reply as short
use Rattle.llb_board.specs.declared.board.undoable_event.Walked.{Walked}
use Rattle.llb_stepper.specs.declared.stop.Break.{Break}
use Rattle.llb_stepper.specs.Stepping.{Stepping, answered}

-- the boards that result from board b when these events, which were done last, are taken back one after another, the last event first
abbrev pub past_of : BoardValue → List Walked → List BoardValue
past_of b [] = []
past_of b (w ∷ ws) = undone w.undo b ∷ past_of (undone w.undo b) ws

-- the value of a stepper in contracts, given its board, its list `walked` (for each event that it did, what takes the event back), and its breakpoints
abbrev pub stepping : BoardValue → List Walked → List Break → Stepping
stepping b walked breaks = record { board = b; past = past_of b (reverse walked); breaks = breaks }

-- board b is the board after some event on the board `before`, and r is the reply to that event
pub record Follows (before b : BoardValue) (r : short.Reply) : Type 0 where
  pub event : Event
  pub reply : Reply
  pub given : answered before event ≡ Some (b, reply)
  pub same : r ≡ told reply

-- For each event that was done, the last event first: the kept `undo` takes the event back from the board after the event, and the table leads by this event
-- from the board before the event to the board after the event, with the kept reply.
abbrev pub AreWalked : BoardValue → List Walked → Type 0
AreWalked b [] = Unit {0}
AreWalked b (w ∷ ws) = CanUndo w.undo b × Follows (undone w.undo b) b w.reply × AreWalked (undone w.undo b) ws
