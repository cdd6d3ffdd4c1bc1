-- A law of the definition.
use Rattle.llb_merge.proofs.LayingProperties.{lay_under_empty}
use Rattle.llb_merge.proofs.laws.under_the_empty_tree.Goals as goal

pub returns : goal.returns
returns c = lay_under_empty c.args.tree.now
