use Rattle.llb_applet.proofs.AndOnlyScripts as ands
use Rattle.llb_applet.proofs.laws.splits_at_ands.Goals as goal

pub returns : goal.returns
returns c = ands.splits_at_ands c.args.text.now
