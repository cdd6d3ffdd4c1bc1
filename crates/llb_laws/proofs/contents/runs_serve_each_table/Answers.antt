use Rattle.llb_laws.proofs.OtherContents.{runs_serve, tokens_by_each_table}
use Rattle.llb_laws.proofs.contents.runs_serve_each_table.Goals as goal

pub returns : goal.returns
returns c =
    let g = c.args.graph.now in
    record { tokens = tokens_by_each_table g; runs = runs_serve g c.is_graph.ensures }
