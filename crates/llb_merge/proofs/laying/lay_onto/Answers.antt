-- The tree over the lower one in that way is laid.
use Rattle.llb_merge.proofs.LayingProperties.{over_is_lay}
use Rattle.llb_merge.proofs.laying.lay_onto.Goals as goal

pub returns : goal.returns
returns c = over_is_lay c.plain-settings.result c.plain-settings.ensures c.args.lower c.args.upper.now c.in_ok-overlaid.field-0 c.in_ok-overlaid.ensures.paths
