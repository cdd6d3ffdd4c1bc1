-- The events so far are chosen and granted, and none is a cancel; their claims ascend; after each event, fewer are still to come.
use Rattle.std.proofs.Common.{◌≡◌, []}
use Rattle.llb_model.specs.EventBounds.{still_to_come}
use Rattle.llb_model.proofs.ChosenEventRuns.{Ascends}
use Rattle.llb_work.specs.LockSharingWorkers.{CancelsNothing}
use Rattle.llb_work.specs.SingleThreadDriver.{Goes}
use Rattle.llb_work.proofs.single_thread_driver.go_to_end.Given as goal

abbrev pub invariant-loop-event : goal.invariant-loop-event
invariant-loop-event l = record {
  goes : Goes l.initial.board l.board;
  claims : l.initial.board.events ≡ [] → Ascends l.board.build l.board.state l.board.events;
  uncancelled : CancelsNothing l.initial.board l.board;
}

abbrev pub decreases-loop-event : goal.decreases-loop-event
decreases-loop-event l = still_to_come l.board.build l.board.state
