use Rattle.llb_laws.proofs.SettledVertexOutcomes.{kept_outputs_stand_in}
use Rattle.llb_laws.proofs.two_graphs.kept_outputs_stand_in.Goals as goal

pub returns : goal.returns
returns c =
    kept_outputs_stand_in c.args.board.now c.args.continued.now c.is_graph.ensures c.is_graph-2.ensures c.settled_are_plain.ensures
    c.settled_are_plain-2.ensures
