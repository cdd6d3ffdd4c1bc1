use Rattle.std.proofs.Common.{Some}
use Rattle.llb_ops.specs.declared.op.Kind.TheVariants.{Merge}
use Rattle.llb_loader.specs.declared.fault.Rule.TheVariants as rule
use Rattle.llb_findings.proofs.BrokenRules.{adds_rule}
use Rattle.llb_findings.proofs.op_rules.add_merge.Goals as goal

pub returns : goal.returns
returns c = adds_rule c.args.inputs.now (Some (Merge c.args.merge.now)) rule.MergeInput _ _ _ tt (rw c.as_slice.ensures at c.all_merged.ensures)
    c.in_ok-add_unless.ensures
