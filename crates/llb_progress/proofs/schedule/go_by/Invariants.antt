-- The events so far are granted, and none is a cancel; from the board so far the other events lead to the board after all.
use Rattle.std.proofs.Common.{◌≡◌, drop}
use Rattle.llb_progress.specs.Schedules.{GoesBy, after_schedule}
use Rattle.llb_progress.proofs.schedule.go_by.Given as goal

abbrev pub invariant-loop-event : goal.invariant-loop-event
invariant-loop-event l = record {
  goes : GoesBy l.fn.board l.board;
  rest : after_schedule l.board (drop l.event-index l.schedule) ≡ after_schedule l.fn.board l.schedule;
}
