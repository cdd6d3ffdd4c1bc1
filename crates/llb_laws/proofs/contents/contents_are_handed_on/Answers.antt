use Rattle.llb_laws.specs.ContentLaws.{By, ExpandsTo}
use Rattle.llb_laws.proofs.AnyNames.{hands_on}
use Rattle.llb_laws.proofs.ContentRelations.{hands_on_undigested, hands_contents_on}
use Rattle.llb_laws.proofs.Tokens.{hands_tokens_on}
use Rattle.llb_laws.proofs.contents.contents_are_handed_on.Goals as goal

pub returns : goal.returns
returns c =
    let g = c.args.graph.now in
    record {
      relations = λ test kept. hands_on (By test) kept g c.is_graph.ensures;
      expansions = λ expand kept. hands_on (ExpandsTo expand) kept g c.is_graph.ensures;
      tokens = hands_tokens_on g c.is_graph.ensures;
      undigested = λ test kept itself. hands_on_undigested (By test) kept itself g c.is_graph.ensures;
      contents = hands_contents_on g c.is_graph.ensures;
    }
