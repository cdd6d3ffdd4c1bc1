use Rattle.llb_model.proofs.DistinctCacheKeys.{graph_distinct}
use Rattle.llb_model.proofs.HeldInstances.{held_are_there}
use Rattle.llb_board.proofs.laws.held_are_there.Goals as goal

pub returns : goal.returns
returns c =
    let b = c.args.board.now.build in
    held_are_there b (graph_distinct b c.is_graph.ensures)
