use Rattle.std.proofs.Common.{Some, ◌∙◌, ap}
use Rattle.llb_loader.specs.Rules.{outputs_of}
use Rattle.llb_ops.specs.declared.op.Kind.TheVariants.{File}
use Rattle.llb_loader.specs.declared.fault.Rule.TheVariants as rule
use Rattle.llb_findings.proofs.BrokenRules.{adds_rule, adds_three}
use Rattle.llb_findings.proofs.op_rules.add_file.Goals as goal

pub returns : goal.returns
returns c =
    let e = c.deref.ensures.value ∙ c.in_ok-outputs.ensures ∙ ap outputs_of c.as_slice-actions.ensures in
    adds_three c.args.inputs.now (Some (File c.args.file.now)) rule.NoActions rule.ActionInput rule.ActionOutput _ _ _ _
    (adds_rule c.args.inputs.now (Some (File c.args.file.now)) rule.NoActions _ _ _ tt c.has_action.ensures c.in_ok-add_unless.ensures)
    (adds_rule c.args.inputs.now (Some (File c.args.file.now)) rule.ActionInput _ _ _ tt (rw c.as_slice-actions.ensures at c.take_inputs.ensures)
    c.in_ok-add_unless-2.ensures)
    (adds_rule c.args.inputs.now (Some (File c.args.file.now)) rule.ActionOutput _ _ _ tt (rw e at c.in_ok-numbered.ensures) c.in_ok-add_unless-3.ensures)
