use Rattle.std.proofs.Common.{◌≡◌, ◌∙◌, sym, ap}
use Rattle.std.specs.Prelude.{Ok, slice_get}
use Rattle.llb_model.specs.Table.{cancel_reply}
use Rattle.llb_events.specs.declared.event.Event.TheVariants.{Cancel}
use Rattle.llb_board.specs.WorkerRules.{given_up_at}
use Rattle.llb_board.specs.BoardValue.{BoardValue, seen}
use Rattle.llb_board.specs.EventResults.{cancel_of}
use Rattle.llb_board.proofs.InvariantPreservation.{recorded_as, left_count, waits_whole}
use Rattle.llb_board.proofs.SettlesAndCancels.{gives, low_status, low_count, few_counts, room_left, rows_kept, cancel_keeps}
use Rattle.llb_board.proofs.board.Board.cancel.Goals as goal
use Rattle.llb_board.proofs.board.Board.cancel.Goals.{In_ok-cancelled}

given : (c : In_ok-cancelled) → given_up_at (slice_get c.self.inside.workers.workers c.args.w)
    ≡ Ok (c.in_ok-cancelled.cancelled.vertex, c.in_ok-cancelled.cancelled.done)
given c = c.in_ok-cancelled.ensures.gives

pub set-requires-clause-low : goal.set-requires-clause-low
set-requires-clause-low c =
    let b = c.self.inside in
    let p = (goal.at.set-requires-clause-low c).In_ok-cancelled in
    let e = c.in_ok-cancelled.ensures in
    let x = c.in_ok-cancelled.cancelled in
    low_status b.vertices b.start.rows b.workers c.give_up.new.self b.history.list b.history.space c.args.w x.vertex x.done c.self.invariant (given p) e.idle
    e.rows

pub set-requires-clause-whole : goal.set-requires-clause-whole
set-requires-clause-whole c = waits_whole (slice_get c.self.inside.vertices.build.graph.vertices c.in_ok-cancelled.cancelled.vertex)

pub record_cancel-requires : goal.record_cancel-requires
record_cancel-requires c =
    let b = c.self.inside in
    let p = (goal.at.record_cancel-requires c).In_ok-cancelled in
    let e = c.in_ok-cancelled.ensures in
    let x = c.in_ok-cancelled.cancelled in
    record {
      room = room_left b.vertices b.start.rows b.workers c.give_up.new.self b.history.list b.history.space c.args.w x.vertex x.done c.self.invariant
          (given p) e.idle e.rows;
      low = low_count b.vertices b.start.rows b.workers c.give_up.new.self b.history.list b.history.space c.args.w x.vertex x.done c.self.invariant
          (given p) e.idle e.rows;
      few = few_counts b.vertices b.start.rows b.workers c.give_up.new.self b.history.list b.history.space c.args.w x.vertex x.done c.self.invariant
          (given p) e.idle e.rows;
    }

pub invariant_of-self-2 : goal.invariant_of-self-2
invariant_of-self-2 c =
    let b = c.self.inside in
    let p = (goal.at.invariant_of-self-2 c).In_ok-cancelled in
    let e = c.in_ok-cancelled.ensures in
    let x = c.in_ok-cancelled.cancelled in
    rw (c.record_cancel.ensures.list, c.record_cancel.ensures.space, c.set.ensures)
    (cancel_keeps b.vertices b.start.rows b.workers c.give_up.new.self b.history.list b.history.space c.args.w x.vertex x.done c.self.invariant
    (given p) e.idle e.rows (e.fits b.vertices.build c.self.invariant.fits))

pub returns-clause-gives : goal.returns-clause-gives
returns-clause-gives c =
    let b = c.self.inside in
    let p = (goal.at.returns-clause-gives c).In_ok-cancelled in
    let e = c.in_ok-cancelled.ensures in
    let x = c.in_ok-cancelled.cancelled in
    let new = c.give_up.new.self in
    ap (λ (m : BoardValue). cancel_of m c.args.w) (sym c.self.view_is)
    ∙ recorded_as b.vertices _ b.start.rows b.workers new b.history.list (Cancel c.args.w) _ (cancel_reply x.vertex x.done)
    (gives b.vertices b.start.rows b.workers new b.history.list b.history.space c.args.w x.vertex x.done c.self.invariant (given p) e.idle e.rows)
    (left_count b.workers new c.args.w e.idle)
    (rows_kept b.vertices b.start.rows b.workers new b.history.list b.history.space c.args.w x.vertex x.done c.self.invariant (given p) e.idle e.rows)
    ∙ (λ i. Ok (seen (sym c.set.ensures i) b.start.rows new (sym c.record_cancel.ensures.list i), cancel_reply x.vertex x.done))
