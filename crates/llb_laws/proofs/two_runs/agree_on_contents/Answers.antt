use Rattle.std.proofs.Common.{subst}
use Rattle.llb_loader.specs.Graph.{Numbered}
use Rattle.llb_laws.specs.ContentLaws.{HandsRelationsOn}
use Rattle.llb_laws.proofs.EqualContents.{agree_on_contents}
use Rattle.llb_laws.proofs.two_runs.agree_on_contents.Goals as goal

pub returns : goal.returns
returns c = λ one.
    agree_on_contents c.args.board.now c.args.other.now one
    (subst (λ (g : Numbered). HandsRelationsOn g) c.graph.ensures c.contents_are_handed_on.ensures.relations) c.boards_settle_alike.ensures.relations
