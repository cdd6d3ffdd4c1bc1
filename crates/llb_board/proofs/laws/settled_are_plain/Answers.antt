use Rattle.llb_board.proofs.RecordedRunStates.{plain}
use Rattle.llb_board.proofs.laws.settled_are_plain.Goals as goal

pub returns : goal.returns
returns c =
    let b = c.args.board.now in
    λ v e is there. (plain b c.is_graph.ensures c.replays.ensures.run).settled v e is there
