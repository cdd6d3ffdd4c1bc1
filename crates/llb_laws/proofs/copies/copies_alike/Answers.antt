use Rattle.llb_laws.proofs.CopiedPaths.{copied_alike}
use Rattle.llb_laws.proofs.copies.copies_alike.Goals as goal

pub returns : goal.returns
returns c = copied_alike c.args.action.now c.args.base.now c.args.first.now c.args.second.now
