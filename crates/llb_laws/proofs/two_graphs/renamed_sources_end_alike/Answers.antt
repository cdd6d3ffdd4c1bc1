use Rattle.llb_laws.proofs.CopyMatchings.{renamed_end_alike}
use Rattle.llb_laws.proofs.two_graphs.renamed_sources_end_alike.Goals as goal

pub returns : goal.returns
returns c =
    renamed_end_alike c.args.graph.now c.args.renamed.now c.is_graph.ensures c.is_graph-2.ensures
