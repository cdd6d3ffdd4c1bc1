-- What the calls of a stepper return.
use Rattle.std.specs.Prelude.{◌≡◌, ℕ, ◌<◌, Bool, true, false, List, take, Some, Result, Ok, Err, slice_get}
use Rattle.std.specs.List.{list_any}
use Rattle.llb_wire.specs.CallResults as answer
use Rattle.llb_events.specs.declared.event.Event.{Event}
use Rattle.llb_model.specs.Table.{Reply}
use Rattle.llb_model.specs.Run.{chosen}
use Rattle.llb_board.specs.BoardValue.{BoardValue}
use Rattle.llb_board.specs.UndoableEvents.{walk_of}
use Rattle.llb_board.specs.WorkersKeptForUndo.{walk_memory, walk_may_want}
use Rattle.llb_board.specs.declared.board.undoable_event.Reply as short
use Rattle.llb_board.specs.declared.fault.WalkFault.{WalkFault}
use Rattle.llb_stepper.specs.declared.fault.StepperFault.{StepperFault}
use Rattle.llb_stepper.specs.declared.fault.StepperFault.TheVariants as fault
use Rattle.llb_stepper.specs.Stepping.{Stepping, GoesBack, answered, onward, meets, meets_at, run_on}

-- whether this fault says that memory was refused, to the board or to the stepper itself
abbrev pub stepper_memory : StepperFault → Bool
stepper_memory (fault.Board e) = walk_memory e
stepper_memory fault.NothingBefore = false
stepper_memory (fault.BadCommand n) = false
stepper_memory fault.Memory = true

-- a call returns the value or the fault that is expected, or it fails for want of memory
abbrev pub GivesEvent : {X Y : Type 0} → (X → Y) → Result X StepperFault → Result Y StepperFault → Type 0
GivesEvent = answer.Gives stepper_memory

-- the stepper after one event, or the fault of the refused event, given what the board's call `walk` returns
abbrev pub done_by : Stepping → Result (BoardValue × short.Reply) WalkFault → Result Stepping StepperFault
done_by s (Ok p) = Ok (onward s p.0)
done_by s (Err e) = Err (fault.Board e)

-- the stepper after one event, or why the event is refused
abbrev pub done_of : Stepping → Event → Result Stepping StepperFault
done_of s e = done_by s (walk_of s.board e)

-- whether an event may need memory: true if the board grants it, or refuses it with 135 `Held` for a key that has a text to copy
abbrev pub may_want : Stepping → Event → Bool
may_want s e = walk_may_want (walk_of s.board e)

-- the chosen event (the event that `chosen` of llb_model returns) is refused only for want of memory
abbrev pub ChosenIsDone : Stepping → Type 0
ChosenIsDone s = (e : Event) (fault : StepperFault) → chosen s.board.build s.board.state ≡ Some e → done_of s e ≡ Err fault → stepper_memory fault ≡ true

-- doing any event and taking it back restores the stepper
abbrev pub ThereAndBack : Stepping → Type 0
ThereAndBack s = (e : Event) (t u : Stepping) → done_of s e ≡ Ok t → GoesBack t u → u ≡ s

-- event e is granted on s, t is the stepper after the event, and `met` says whether the event meets a breakpoint
abbrev pub MeetsOn : Stepping → Event → Stepping → Bool → Type 0
MeetsOn s e t met = (b : BoardValue) × (r : Reply) × (answered s.board e ≡ Some (b, r)) × (t ≡ onward s b) × (met ≡ list_any (meets e r) s.breaks)

-- The first `count` events of a list are granted and meet no breakpoint. The event after them is refused with e, or e says that memory was refused.
pub record IsRefusedAt (s : Stepping) (es : List Event) (e : StepperFault) : Type 0 where
  pub count : ℕ
  pub board : BoardValue
  pub leads : run_on s.board (take count es) ≡ Some board
  pub unmet : (k : ℕ) → k < count → meets_at s.breaks s.board es k ≡ false
  pub event : Event
  pub at : slice_get es count ≡ Some event
  pub refused : stepper_memory e ≡ false → done_of (record s { board = board }) event ≡ Err e
