use Rattle.std.proofs.Common.{◌≡◌, ◌∙◌, sym, ap}
use Rattle.std.specs.Prelude.{Ok, Some, slice_get, if◌then◌else◌}
use Rattle.llb_events.specs.declared.event.Settled.TheVariants as ended
use Rattle.llb_model.specs.Table.{HasSettled}
use Rattle.llb_model.specs.State.{Status, ending_of, is_failed}
use Rattle.llb_model.specs.Table as table
use Rattle.llb_events.specs.declared.event.Event.TheVariants.{Settle}
use Rattle.llb_board.specs.WorkerRules.{left_at}
use Rattle.llb_board.specs.Vertices.{status_of}
use Rattle.llb_board.specs.BoardValue.{BoardValue, seen}
use Rattle.llb_board.specs.EventResults.{settle_of}
use Rattle.llb_board.proofs.InvariantPreservation.{recorded_as, left_count}
use Rattle.llb_board.proofs.SettlesAndCancels.{reply_is, ends, grants, low, room, rows_stay, keeps}
use Rattle.llb_board.proofs.board.Board.settle.Goals as goal
use Rattle.llb_board.proofs.board.Board.settle.Goals.{In_ok-v}

given : (c : In_ok-v) → left_at c.self.inside.vertices.build (slice_get c.self.inside.workers.workers c.args.w)
    ≡ Ok (c.in_ok-v.v, status_of c.in_ok-v.stage)
given c = c.in_ok-v.ensures.gives

pub set-requires-clause-low : goal.set-requires-clause-low
set-requires-clause-low c =
    let b = c.self.inside in
    let p = (goal.at.set-requires-clause-low c).In_ok-v in
    let e = c.in_ok-v.ensures in
    low b.vertices b.start.rows b.workers c.leave.new.self b.history.list b.history.space c.args.w c.in_ok-v.v (status_of c.in_ok-v.stage) c.self.invariant
    (given p) e.idle e.rows

pub record-requires : goal.record-requires
record-requires c =
    let b = c.self.inside in
    let p = (goal.at.record-requires c).In_ok-v in
    let e = c.in_ok-v.ensures in
    room b.vertices b.start.rows b.workers c.leave.new.self b.history.list b.history.space c.args.w c.in_ok-v.v (status_of c.in_ok-v.stage) c.self.invariant
    (given p) e.idle e.rows

pub invariant_of-self-2 : goal.invariant_of-self-2
invariant_of-self-2 c =
    let b = c.self.inside in
    let p = (goal.at.invariant_of-self-2 c).In_ok-v in
    let e = c.in_ok-v.ensures in
    rw (c.record.ensures.list, c.record.ensures.space, c.set.ensures)
    (keeps b.vertices b.start.rows b.workers c.leave.new.self b.history.list b.history.space c.args.w c.in_ok-v.v (status_of c.in_ok-v.stage)
    c.self.invariant (given p) e.idle e.rows e.fits)

pub returns-clause-gives : goal.returns-clause-gives
returns-clause-gives c =
    let b = c.self.inside in
    let p = (goal.at.returns-clause-gives c).In_ok-v in
    let e = c.in_ok-v.ensures in
    let v = c.in_ok-v.v in
    let new = c.leave.new.self in
    let can = ends b.vertices b.start.rows b.workers new b.history.list b.history.space c.args.w v (status_of c.in_ok-v.stage) c.self.invariant
    (given p) e.idle e.rows in
    let reply : table.settle_done v can.ending ≡ c.settled.result
    = reply_is v can.ending
    ∙ ap (λ (k : Status). if is_failed (ending_of (Some k)) then ended.Failed v else ended.Done v) (sym can.is)
    ∙ ap (λ f. if f then ended.Failed v else ended.Done v) (sym c.has_failed-failed.ensures)
    ∙ sym c.settled.ensures in
    ap (λ (m : BoardValue). settle_of m c.args.w) (sym c.self.view_is)
    ∙ recorded_as b.vertices _ b.start.rows b.workers new b.history.list (Settle c.args.w) _ (table.settle_reply v can.ending)
    (grants b.vertices b.start.rows b.workers new b.history.list b.history.space c.args.w v (status_of c.in_ok-v.stage) c.self.invariant
    (given p) e.idle e.rows)
    (left_count b.workers new c.args.w e.idle)
    (rows_stay b.vertices b.start.rows b.workers new b.history.list b.history.space c.args.w v (status_of c.in_ok-v.stage) c.self.invariant
    (given p) e.idle e.rows)
    ∙ (λ i. Ok (seen (sym c.set.ensures i) b.start.rows new (sym c.record.ensures.list i), HasSettled (reply i)))
