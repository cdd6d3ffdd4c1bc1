use Rattle.std.proofs.Common.{true≢false, sym, ◌∙◌}
use Rattle.llb_board.specs.WorkerModelValues.{at_of}
use Rattle.llb_board.proofs.MappedListEquality.{alike_at, differ}
use Rattle.llb_board.proofs.workers.running_workers.same_seats.Goals as goal

pub returns-then-not-same_seat : goal.returns-then-not-same_seat
returns-then-not-same_seat c =
    differ (λ e. true≢false (sym (c.same_seat.ensures.1 (alike_at at_of c.args.seats.now c.args.others.now c.loop-i.i _ _ c.loop-i-test.true
    c.if-seats-others.false c.index-seats-i.is c.index-others-i.is e)) ∙ c.if-not-same_seat.true))
