use Rattle.llb_laws.proofs.RewrittenMatchings.{rewriting_shares_result}
use Rattle.llb_laws.proofs.two_graphs.rewritten_has_same_result.Goals as goal

pub returns : goal.returns
returns c =
    rewriting_shares_result c.args.definition.now c.args.rewritten.now c.args.graph.now c.args.changed.now c.is_graph.ensures c.is_graph-2.ensures
