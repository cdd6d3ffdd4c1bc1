use Rattle.llb_applet.proofs.ScriptTextRoundTrip as again
use Rattle.llb_applet.proofs.laws.reads_again.Goals as goal

pub returns : goal.returns
returns c = again.reads_again c.args.text.now
