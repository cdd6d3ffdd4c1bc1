use Rattle.llb_model.proofs.DistinctCacheKeys.{graph_distinct}
use Rattle.llb_model.proofs.WholeRunEnds.{alone_in_claim_order}
use Rattle.llb_board.proofs.laws.alone_in_claim_order.Goals as goal

pub returns : goal.returns
returns c =
    let b = c.args.board.now.build in
    alone_in_claim_order b (graph_distinct b c.is_graph.ensures)
