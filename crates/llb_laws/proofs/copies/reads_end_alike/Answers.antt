use Rattle.llb_laws.proofs.FileOpReads.{reads_end_alike}
use Rattle.llb_laws.proofs.copies.reads_end_alike.Goals as goal

pub returns : goal.returns
returns c = reads_end_alike c.args.graph.now c.args.matched.now c.is_graph.ensures c.is_graph-2.ensures
