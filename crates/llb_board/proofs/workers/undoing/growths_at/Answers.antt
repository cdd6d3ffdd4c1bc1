use Rattle.std.proofs.Common.{sym}
use Rattle.llb_board.proofs.NeedsByMount.{graph_edges}
use Rattle.llb_board.proofs.workers.undoing.growths_at.Goals as goal

pub growths_of-requires : goal.growths_of-requires
growths_of-requires c = graph_edges c.args.vertices.now.build.graph c.args.v c.in-Some.vertex.now c.in-Some.ensures.graph (sym c.in-Some.ensures.there)
