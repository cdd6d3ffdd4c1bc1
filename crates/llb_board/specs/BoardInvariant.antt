-- The invariant of a board: by the table, the record leads to the board's state; room enough is reserved; cancels are counted; each worker has its supplies.
use Rattle.std.specs.Prelude.{◌+◌, ◌≡◌}
use Rattle.llb_model.specs.EventBounds.{most_events, owed, cancel_counts}
use Rattle.llb_board.specs.Workers.{WorkersValue, Fits}
use Rattle.llb_board.specs.BoardValue.{BoardValue, Replays}
use Rattle.llb_board.specs.History.{Space}

-- The table replays the record to the board's state. The record's room is enough for all events of the run, except those of vertices that wait after a cancel:
-- the next claim of such a vertex reserves room for its events. `space` has how often each vertex was cancelled. Each worker has the supplies for its vertex.
pub record IsBoard (b : BoardValue) (ws : WorkersValue) (space : Space) : Type 0 where
  pub replays : Replays b
  pub room : space.room + owed b.build b.state.statuses replays.replies ≡ most_events b.build replays.replies
  pub counted : space.cancels ≡ cancel_counts b.build replays.replies
  pub fits : Fits b.build ws
