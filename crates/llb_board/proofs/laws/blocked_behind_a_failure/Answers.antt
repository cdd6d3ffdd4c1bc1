use Rattle.llb_model.proofs.StoppedVertices.{blocked_is}
use Rattle.llb_board.proofs.RecordedRunStates.{consistent}
use Rattle.llb_board.proofs.laws.blocked_behind_a_failure.Goals as goal

pub returns : goal.returns
returns c =
    let b = c.args.board.now in
    λ v x there. blocked_is b.build c.is_graph.ensures b.state (consistent b c.replays.ensures.run) v x there
