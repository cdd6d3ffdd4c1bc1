use Rattle.std.proofs.Common.{sym, subst}
use Rattle.llb_applet.specs.Scripts.{BeginsWithThen}
use Rattle.llb_applet.proofs.FirstCommandOfScript.{BothBegin, begins_script}
use Rattle.llb_applet.proofs.script.read_script.Goals as goal

pub invariant_of-result : goal.invariant_of-result
invariant_of-result c =
    let begins = subst BothBegin c.in_ok-commands.ensures.gives (begins_script c.args.args.now) in
    subst (λ v. BeginsWithThen v.items) (sym c.in_ok-commands-2.ensures.ok) begins
