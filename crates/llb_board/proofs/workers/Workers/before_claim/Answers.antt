use Rattle.std.proofs.Common.{subst}
use Rattle.llb_board.specs.WorkersKeptForUndo.{Unclaim, MarksClaim}
use Rattle.llb_board.specs.Workers.{WorkersValue}
use Rattle.llb_board.proofs.WorkersBeforeEvents.{marks_claim}
use Rattle.llb_board.proofs.workers.Workers.before_claim.Goals as goal

pub returns : goal.returns
returns c =
    let b = c.self.inside in
    let vs = c.args.vertices.now in
    let growths = c.in_ok-growths.growths.items in
    subst (λ (s : WorkersValue). MarksClaim vs s c.args.w c.args.v (record { back = Unclaim c.args.w c.args.v growths })) c.self.view_is
    (marks_claim vs b.seats.items b.caches c.args.w c.args.v growths c.self.invariant c.is_exclusive.ensures.apart c.in_ok-growths.ensures)
