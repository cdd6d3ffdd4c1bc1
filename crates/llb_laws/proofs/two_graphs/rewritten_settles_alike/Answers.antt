use Rattle.llb_laws.proofs.SettledVertexOutcomes.{rewriting_settles_alike}
use Rattle.llb_laws.proofs.two_graphs.rewritten_settles_alike.Goals as goal

pub returns : goal.returns
returns c =
    rewriting_settles_alike c.args.definition.now c.args.rewritten.now c.args.board.now c.args.changed.now c.is_graph.ensures
    c.is_graph-2.ensures c.settled_are_plain.ensures c.settled_are_plain-2.ensures
