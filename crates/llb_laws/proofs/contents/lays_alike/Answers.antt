use Rattle.llb_laws.specs.ContentLaws.{By}
use Rattle.llb_laws.proofs.AnyNames.{lay_any}
use Rattle.llb_laws.proofs.contents.lays_alike.Goals as goal

pub returns : goal.returns
returns c = λ test u w first second. lay_any (By test) c.args.lower.now u c.args.upper.now w first second
