use Rattle.llb_laws.proofs.CopyMatchings.{kept_stand_in}
use Rattle.llb_laws.proofs.two_graphs.kept_results_stand_in.Goals as goal

pub returns : goal.returns
returns c =
    kept_stand_in c.args.graph.now c.args.resumed.now c.is_graph.ensures c.is_graph-2.ensures
