use Rattle.llb_laws.proofs.SettledVertexOutcomes.{settle_alike}
use Rattle.llb_laws.proofs.two_graphs.boards_settle_alike.Goals as goal

pub returns : goal.returns
returns c =
    settle_alike c.args.first.now c.args.second.now c.args.board.now c.args.other.now c.is_graph.ensures c.is_graph-2.ensures c.settled_are_plain.ensures
    c.settled_are_plain-2.ensures
