use Rattle.llb_laws.proofs.Digests.{depend_on_sources}
use Rattle.llb_laws.proofs.two_graphs.outcome_by_sources.Goals as goal

pub returns : goal.returns
returns c =
    depend_on_sources c.args.graph.now c.is_graph.ensures
