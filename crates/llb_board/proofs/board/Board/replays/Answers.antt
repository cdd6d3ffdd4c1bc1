use Rattle.std.proofs.Common.{subst}
use Rattle.llb_model.specs.WholeRunLaws.{IsReached}
use Rattle.llb_board.specs.BoardValue.{BoardValue, seen}
use Rattle.llb_board.proofs.RecordedRunStates.{reached}
use Rattle.llb_board.proofs.board.Board.replays.Goals as goal

pub returns-clause-reached : goal.returns-clause-reached
returns-clause-reached c =
    let i = c.self.inside in
    subst (λ (s : BoardValue). IsReached s.build s.state) c.self.view_is
    (reached (seen i.vertices i.start.rows i.workers i.history.list) c.self.invariant.replays)
