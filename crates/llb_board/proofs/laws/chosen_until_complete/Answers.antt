use Rattle.llb_model.proofs.RunCompletion.{none_is_complete, complete_is_none}
use Rattle.llb_board.proofs.RecordedRunStates.{consistent}
use Rattle.llb_board.proofs.laws.chosen_until_complete.Goals as goal

pub returns : goal.returns
returns c =
    let b = c.args.board.now in
    let here = consistent b c.replays.ensures.run in
    (none_is_complete b.build c.is_graph.ensures b.state here, complete_is_none b.build c.is_graph.ensures b.state here)
