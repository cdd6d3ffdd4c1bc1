use Rattle.std.proofs.Common.{refl, sym, ◌∙◌}
use Rattle.llb_progress.proofs.Schedules.{goes_nowhere, goes_if, taken_if, after_more}
use Rattle.llb_progress.proofs.schedule.go_by.Goals as goal

pub loop-event-init : goal.loop-event-init
loop-event-init c = record { goes = goes_nowhere c.args.board.now; rest = refl }

pub loop-event-preserved : goal.loop-event-preserved
loop-event-preserved c =
    let b = c.loop-event.board in
    let n = c.go.new.board in
    let is = sym c.is_cancel.ensures ∙ c.if-is_cancel.false in
    let of = c.in_ok-go.ensures in
    let done = c.in_ok-go.field-0 in
    record {
      goes = goes_if c.args.board.now b n _ done c.loop-event.invariant.goes is of.granted of.kept;
      rest = after_more b n c.args.schedule.now c.loop-event.event-index c.loop-event-test.true (taken_if b n _ done is of.granted of.refused of.kept)
          ∙ c.loop-event.invariant.rest;
    }
