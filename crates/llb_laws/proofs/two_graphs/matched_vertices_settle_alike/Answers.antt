use Rattle.llb_laws.proofs.SettledVertexOutcomes.{matched_settle_alike}
use Rattle.llb_laws.proofs.two_graphs.matched_vertices_settle_alike.Goals as goal

pub returns : goal.returns
returns c =
    matched_settle_alike c.args.board.now c.args.matched.now c.is_graph.ensures c.is_graph-2.ensures c.settled_are_plain.ensures
    c.settled_are_plain-2.ensures
