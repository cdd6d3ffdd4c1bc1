use Rattle.llb_laws.proofs.Jobs.{share_jobs}
use Rattle.llb_laws.proofs.two_graphs.one_digest_one_job.Goals as goal

pub returns : goal.returns
returns c =
    share_jobs c.args.first.now c.args.second.now c.args.graph.now c.args.other.now c.is_graph.ensures c.is_graph-2.ensures
