use Rattle.llb_model.proofs.ReadyVertices.{ready_law}
use Rattle.llb_board.proofs.RecordedRunStates.{consistent}
use Rattle.llb_board.proofs.laws.ready_behind_done.Goals as goal

pub returns : goal.returns
returns c =
    let b = c.args.board.now in
    λ v x there. ready_law b.build c.is_graph.ensures b.state (consistent b c.replays.ensures.run) v x there
