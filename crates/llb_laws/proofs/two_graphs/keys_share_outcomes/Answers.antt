use Rattle.llb_laws.proofs.Keys.{keys_share_outcomes}
use Rattle.llb_laws.proofs.two_graphs.keys_share_outcomes.Goals as goal

pub returns : goal.returns
returns c =
    keys_share_outcomes c.args.first.now c.args.second.now c.args.graph.now c.args.other.now c.is_graph.ensures c.is_graph-2.ensures
