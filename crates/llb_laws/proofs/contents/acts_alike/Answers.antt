use Rattle.llb_laws.specs.ContentLaws.{By}
use Rattle.llb_laws.proofs.AnyNames.{act_any}
use Rattle.llb_laws.proofs.contents.acts_alike.Goals as goal

pub returns : goal.returns
returns c = λ test u w body first second. act_any (By test) c.args.action.now.kind body c.args.base.now u c.args.second.now w first second
