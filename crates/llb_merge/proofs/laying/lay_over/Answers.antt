use Rattle.llb_merge.proofs.LayingProperties.{over_is_lay}
use Rattle.llb_merge.proofs.laying.lay_over.Goals as goal

pub returns-clause-ok : goal.returns-clause-ok
returns-clause-ok c =
    over_is_lay c.plain-settings.result c.plain-settings.ensures c.args.lower.now c.args.upper.now c.overlay.new.self c.in_ok-overlay.ensures.paths
