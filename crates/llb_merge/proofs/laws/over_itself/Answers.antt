-- A law of the definition.
use Rattle.llb_merge.proofs.LayingProperties.{lay_itself}
use Rattle.llb_merge.proofs.laws.over_itself.Goals as goal

pub returns : goal.returns
returns c = lay_itself c.args.tree.now
