use Rattle.std.proofs.Common.{sym}
use Rattle.llb_progress.proofs.Schedules.{chosen_nowhere, chosen_further, nearer}
use Rattle.llb_progress.proofs.schedule.go_to_end.Goals as goal

pub loop-event-init : goal.loop-event-init
loop-event-init c = chosen_nowhere c.args.board.now

pub loop-event-smaller : goal.loop-event-smaller
loop-event-smaller c =
    nearer c.loop-event.board c.go.new.board c.in-Some.event (c.in_ok-go.ensures.granted c.if-not-branch.false) (sym c.in-Some.ensures)

pub loop-event-preserved : goal.loop-event-preserved
loop-event-preserved c =
    chosen_further c.args.board.now c.loop-event.board c.go.new.board c.in-Some.event c.loop-event.invariant (sym c.in-Some.ensures)
    (c.in_ok-go.ensures.granted c.if-not-branch.false)
