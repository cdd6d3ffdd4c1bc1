use Rattle.llb_laws.specs.ContentLaws.{By}
use Rattle.llb_laws.proofs.AlikeRuns.{hands_runs_on, hands_run_contents_on, hands_run_tokens_on}
use Rattle.llb_laws.proofs.contents.records_are_handed_on.Goals as goal

pub returns : goal.returns
returns c =
    let g = c.args.graph.now in
    record {
      relations = λ test kept. hands_runs_on (By test) kept g c.is_graph.ensures;
      tokens = hands_run_tokens_on g c.is_graph.ensures;
      contents = hands_run_contents_on g c.is_graph.ensures;
    }
