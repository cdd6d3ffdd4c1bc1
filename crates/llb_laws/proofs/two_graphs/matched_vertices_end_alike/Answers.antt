use Rattle.llb_laws.proofs.Matches.{matched_end_alike}
use Rattle.llb_laws.proofs.two_graphs.matched_vertices_end_alike.Goals as goal

pub returns : goal.returns
returns c =
    matched_end_alike c.args.graph.now c.args.matched.now c.is_graph.ensures c.is_graph-2.ensures
