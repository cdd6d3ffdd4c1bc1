use Rattle.llb_laws.proofs.Tokens.{expands_to_one}
use Rattle.llb_laws.proofs.contents.expands_to_one.Goals as goal

pub returns : goal.returns
returns c = λ expand u w h k. expands_to_one expand c.args.tree.now u w h k
