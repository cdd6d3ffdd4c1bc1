-- The events so far are chosen and granted; after each event, fewer are still to come.
use Rattle.llb_model.specs.EventBounds.{still_to_come}
use Rattle.llb_progress.specs.Schedules.{GoesByChosen}
use Rattle.llb_progress.proofs.schedule.go_to_end.Given as goal

abbrev pub invariant-loop-event : goal.invariant-loop-event
invariant-loop-event l = GoesByChosen l.fn.board l.board

abbrev pub decreases-loop-event : goal.decreases-loop-event
decreases-loop-event l = still_to_come l.board.build l.board.state
