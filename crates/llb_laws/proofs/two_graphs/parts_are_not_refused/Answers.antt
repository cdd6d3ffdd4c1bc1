use Rattle.llb_laws.proofs.LoadingParts.{part_is_not_refused, order_is_not_refused}
use Rattle.llb_laws.proofs.two_graphs.parts_are_not_refused.Goals as goal

pub returns-clause-part : goal.returns-clause-part
returns-clause-part c = part_is_not_refused c.args.definition.now c.args.graph.now c.args.part.now c.is_graph.ensures

pub returns-clause-order : goal.returns-clause-order
returns-clause-order c = order_is_not_refused c.args.definition.now c.args.graph.now c.args.part.now c.is_graph.ensures
