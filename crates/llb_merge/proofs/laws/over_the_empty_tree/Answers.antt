-- A law of the definition, of what a tree is by its type.
use Rattle.llb_merge.proofs.LayingProperties.{lay_over_empty}
use Rattle.llb_merge.proofs.laws.over_the_empty_tree.Goals as goal

pub returns : goal.returns
returns c = lay_over_empty c.args.tree.now c.is_tree.ensures
