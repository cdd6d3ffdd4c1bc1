use Rattle.std.proofs.Common.{◌≡◌, ◌↔◌, IsTrue, ◌==◌, [], length, sym, ◌∙◌, ap, subst, rules}
use Rattle.llb_execution.specs.declared.steps.ByKind.{ByKind}
use Rattle.llb_execution.specs.declared.steps.ByKind.TheVariants as steps
use Rattle.llb_execution.specs.ModelValues.{steps_in}
use Rattle.llb_execution.proofs.MicroStepEquality.{no_runs}
use Rattle.llb_execution.proofs.same.are_none.Goals as goal

pub returns-in-Commands : goal.returns-in-Commands
returns-in-Commands c =
    let is : c.args.steps.now ≡ steps.Commands c.in-Commands.field-0 c.in-Commands.script = search rules in
    let empty : c.is_empty-in-Commands.result ≡ (length c.in-Commands.script == 0) =
    c.is_empty-in-Commands.ensures ∙ ap (λ cs. length cs == 0) c.commands.ensures in
    subst (λ (s : ByKind). IsTrue c.is_empty-in-Commands.result ↔ (steps_in s ≡ [])) (sym is)
    (subst (λ b. IsTrue b ↔ (steps_in (steps.Commands c.in-Commands.field-0 c.in-Commands.script) ≡ [])) (sym empty)
    (no_runs c.in-Commands.field-0 c.in-Commands.script))
