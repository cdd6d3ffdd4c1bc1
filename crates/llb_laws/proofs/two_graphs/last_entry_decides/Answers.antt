use Rattle.llb_laws.proofs.Definitions.{share_results}
use Rattle.llb_laws.proofs.two_graphs.last_entry_decides.Goals as goal

pub returns : goal.returns
returns c =
    share_results c.args.first.now c.args.second.now c.args.graph.now c.args.other.now c.is_graph.ensures c.is_graph-2.ensures
