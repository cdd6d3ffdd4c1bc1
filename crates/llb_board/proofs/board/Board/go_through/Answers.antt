use Rattle.std.proofs.Common.{sym, subst}
use Rattle.llb_loader.specs.Graph.{IsGraph}
use Rattle.llb_board.specs.BoardValue.{BoardValue, seen}
use Rattle.llb_board.specs.Landing.{CanLand, IsThrough}
use Rattle.llb_board.proofs.LandedBoards.{runs_job, keeps, room, through}
use Rattle.llb_board.proofs.board.Board.go_through.Goals as goal

pub land-requires-clause-runs : goal.land-requires-clause-runs
land-requires-clause-runs c =
    let b = c.self.inside in
    let can : CanLand (seen b.vertices b.start.rows b.workers b.history.list) c.args.w c.args.outcome.job
    = subst (λ (m : BoardValue). CanLand m c.args.w c.args.outcome.job) (sym c.self.view_is) c.requires in
    runs_job b.vertices b.start.rows b.workers b.history.list c.args.w c.args.outcome.job can

pub record_steps-requires : goal.record_steps-requires
record_steps-requires c =
    let b = c.self.inside in
    let can : CanLand (seen b.vertices b.start.rows b.workers b.history.list) c.args.w c.args.outcome.job
    = subst (λ (m : BoardValue). CanLand m c.args.w c.args.outcome.job) (sym c.self.view_is) c.requires in
    rw c.count-count.ensures
    (room b.vertices b.start.rows b.workers c.land.new.self b.history.list b.history.space c.args.w can.x c.args.outcome c.self.invariant
    (subst IsGraph c.graph.ensures c.vertices.ensures.graph) can.runs can.own c.is_whole.ensures c.land.ensures.workers c.land.ensures.rows)

pub invariant_of-self : goal.invariant_of-self
invariant_of-self c =
    let b = c.self.inside in
    let can : CanLand (seen b.vertices b.start.rows b.workers b.history.list) c.args.w c.args.outcome.job
    = subst (λ (m : BoardValue). CanLand m c.args.w c.args.outcome.job) (sym c.self.view_is) c.requires in
    rw (c.record_steps.ensures.list, c.record_steps.ensures.space, c.count-count.ensures)
    (keeps b.vertices b.start.rows b.workers c.land.new.self b.history.list b.history.space c.args.w can.x c.args.outcome c.self.invariant
    (subst IsGraph c.graph.ensures c.vertices.ensures.graph) can.runs can.own c.is_whole.ensures c.land.ensures.workers c.land.ensures.rows c.land.ensures.fits)

pub returns : goal.returns
returns c =
    let b = c.self.inside in
    let can : CanLand (seen b.vertices b.start.rows b.workers b.history.list) c.args.w c.args.outcome.job
    = subst (λ (m : BoardValue). CanLand m c.args.w c.args.outcome.job) (sym c.self.view_is) c.requires in
    let done = through b.vertices b.start.rows b.workers c.land.new.self b.history.list b.history.space c.args.w can.x c.args.outcome c.self.invariant
    (subst IsGraph c.graph.ensures c.vertices.ensures.graph) can.runs can.own c.is_whole.ensures c.land.ensures.workers c.land.ensures.rows in
    subst (λ (m : BoardValue). IsThrough m c.args.w c.args.outcome.count
    (seen b.vertices b.start.rows c.land.new.self c.record_steps.new.self.list)) c.self.view_is
    (rw (c.record_steps.ensures.list, c.count-count.ensures) done)
