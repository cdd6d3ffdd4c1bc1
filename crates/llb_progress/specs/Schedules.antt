-- What a schedule does to a board: events that the table grants one after another, none of which is a cancel.
use Rattle.std.specs.Prelude.{◌≡◌, ℕ, true, List, ◌++◌, fold, Option, Some, None, slice_get, if◌then◌else◌}
use Rattle.llb_events.specs.declared.event.Event.{Event}
use Rattle.llb_model.specs.State.{Execution, Runs, State}
use Rattle.llb_model.specs.Table.{Reply, table}
use Rattle.llb_model.specs.Run.{run, is_complete}
use Rattle.llb_model.specs.WholeRunLaws.{AreChosen}
use Rattle.llb_board.specs.BoardValue.{BoardValue, after_event}
use Rattle.llb_progress.specs.Progress.{GoOnly, is_cancel, next_by}

-- `new` is the board `old` after event e, which the table grants
pub record Follows (old : BoardValue) (e : Event) (new : BoardValue) : Type 0 where
  pub state : State
  pub reply : Reply
  pub granted : table old.build old.state e ≡ Some (state, reply)
  pub is : new ≡ after_event old e state

-- worker w runs a vertex on the board `old`, and `new` is `old` after the worker's next event
pub record IsNextOf (old : BoardValue) (w : ℕ) (new : BoardValue) : Type 0 where
  pub execution : Execution
  pub runs : slice_get old.state.workers w ≡ Some (Runs execution)
  pub follows : Follows old (next_by old.build w execution) new

-- `new` is the board `old` after events that are granted one after another and recorded, and none of which is a cancel
pub record GoesBy (old new : BoardValue) : Type 0 where
  pub build : new.build ≡ old.build
  pub more : List Event
  pub goes : GoOnly more
  pub replies : List Reply
  pub leads : run old.build old.state more ≡ Some (new.state, replies)
  pub events : new.events ≡ old.events ++ more

-- `new` is the board `old` after such events, each of which is the event that `chosen` of llb_model returns for the board before it
pub record GoesByChosen (old new : BoardValue) : Type 0 where
  pub goes : GoesBy old new
  pub chosen : AreChosen old.build old.state goes.more

-- the board after an event, given the table's answer to it: the board as it was if the event is refused
abbrev pub done_by : BoardValue → Event → Option (State × Reply) → BoardValue
done_by b e None = b
done_by b e (Some (s, r)) = after_event b e s

-- the board after an event of a schedule; a cancel and a refused event are left out
abbrev pub taken : BoardValue → Event → BoardValue
taken b e = if is_cancel e then b else done_by b e (table b.build b.state e)

-- the board after the events of a schedule
abbrev pub after_schedule : BoardValue → List Event → BoardValue
after_schedule b es = fold taken b es

-- `new` is the board `old` after chosen events, and complete
pub record EndsBy (old new : BoardValue) : Type 0 where
  pub goes : GoesByChosen old new
  pub complete : is_complete new.build new.state ≡ true
