use Rattle.std.proofs.Common.{ap, ◌∙◌}
use Rattle.std.specs.Prelude.{is_some}
use Rattle.llb_applet.proofs.ExactCauses.{exact}
use Rattle.llb_applet.proofs.cause.why_failed.Goals as goal

pub returns-clause-exact : goal.returns-clause-exact
returns-clause-exact c = ap is_some c.in_ok-cause.ensures ∙ exact c.args.setting.now c.args.view.now c.args.command.now
