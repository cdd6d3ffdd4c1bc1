use Rattle.llb_laws.proofs.SettledVertexOutcomes.{part_settles_alike}
use Rattle.llb_laws.proofs.two_graphs.part_settles_alike.Goals as goal

pub returns : goal.returns
returns c =
    part_settles_alike c.args.definition.now c.args.part.now c.args.board.now c.args.smaller.now c.is_graph.ensures c.is_graph-2.ensures
    c.settled_are_plain.ensures c.settled_are_plain-2.ensures
