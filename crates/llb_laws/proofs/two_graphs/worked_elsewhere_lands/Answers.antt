use Rattle.llb_laws.proofs.Jobs.{worked_elsewhere_lands}
use Rattle.llb_laws.proofs.two_graphs.worked_elsewhere_lands.Goals as goal

pub returns : goal.returns
returns c =
    let land = c.begun_are_plain.ensures.land in
    worked_elsewhere_lands c.args.first.now c.args.second.now c.args.graph.now c.args.board.now c.is_graph.ensures c.is_graph-2.ensures land
