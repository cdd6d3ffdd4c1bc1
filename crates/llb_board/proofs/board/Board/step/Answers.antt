use Rattle.std.proofs.Common.{◌≡◌, refl, arith}
use Rattle.std.specs.Prelude.{Ok}
use Rattle.llb_events.specs.declared.event.Event.TheVariants.{Step}
use Rattle.llb_model.specs.Table.{HasStepped, step_grant}
use Rattle.llb_board.specs.Workers.{state_in}
use Rattle.llb_board.specs.BoardValue.{seen}
use Rattle.llb_board.proofs.RulesGrantedByTable.{step_done}
use Rattle.llb_board.proofs.InvariantPreservation.{has_room, kept_after}
use Rattle.llb_board.proofs.RecordRoomAndCancels.{space_stays}
use Rattle.llb_board.proofs.board.Board.step.Goals as goal
use Rattle.llb_board.proofs.board.Board.step.Goals.{In_ok-stepped}

-- the table grants the step
given : (c : In_ok-stepped) → step_grant c.self.inside.vertices.build (state_in c.self.inside.vertices c.self.inside.workers) c.args.w
    ≡ Ok (state_in c.self.inside.vertices c.step.new.self, HasStepped c.in_ok-stepped.stepped)
given c = c.in_ok-stepped.ensures.gives

pub record-requires : goal.record-requires
record-requires c =
    let b = c.self.inside in
    let p = (goal.at.record-requires c).In_ok-stepped in
    let place = has_room (seen b.vertices b.start.rows b.workers b.history.list) b.workers b.history.space (Step c.args.w) _ c.self.invariant
    (step_done b.vertices.build _ c.args.w _ (given p)) in
    omega (arith, place)

pub invariant_of-self-2 : goal.invariant_of-self-2
invariant_of-self-2 c =
    let b = c.self.inside in
    let p = (goal.at.invariant_of-self-2 c).In_ok-stepped in
    let e = c.in_ok-stepped.ensures in
    let new = c.step.new.self in
    let r = HasStepped c.in_ok-stepped.stepped in
    let done = step_done b.vertices.build (state_in b.vertices b.workers) c.args.w _ (given p) in
    rw (c.record.ensures.list, c.record.ensures.space)
    (kept_after b.vertices b.vertices.statuses b.start.rows b.workers new b.history.list b.history.space (Step c.args.w) r c.self.invariant done
    (record { count = e.count; rows = e.rows; fits = e.fits }) b.history.space
    (space_stays b.vertices.build (state_in b.vertices b.workers) (Step c.args.w) (state_in b.vertices new, r) c.self.invariant.replays.replies
    b.history.space (λ u e. cc) refl done c.self.invariant.counted))
