use Rattle.llb_laws.proofs.Definitions.{order_shares_result}
use Rattle.llb_laws.proofs.two_graphs.order_does_not_matter.Goals as goal

pub returns : goal.returns
returns c =
    order_shares_result c.args.definition.now c.args.reordered.now c.args.graph.now c.args.renumbered.now c.is_graph.ensures c.is_graph-2.ensures
