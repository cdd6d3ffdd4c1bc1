use Rattle.llb_laws.proofs.Definitions.{part_shares_result}
use Rattle.llb_laws.proofs.two_graphs.part_has_same_result.Goals as goal

pub returns : goal.returns
returns c =
    part_shares_result c.args.definition.now c.args.part.now c.args.graph.now c.args.smaller.now c.is_graph.ensures c.is_graph-2.ensures
