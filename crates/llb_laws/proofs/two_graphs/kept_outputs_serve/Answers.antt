use Rattle.llb_laws.proofs.Keys.{kept_outputs_serve}
use Rattle.llb_laws.proofs.two_graphs.kept_outputs_serve.Goals as goal

pub returns : goal.returns
returns c =
    kept_outputs_serve c.args.first.now c.args.second.now c.args.board.now c.args.later.now c.args.shortened.now c.is_graph.ensures c.is_graph-2.ensures
    c.is_graph-3.ensures c.settled_are_plain.ensures
