use Rattle.std.proofs.Common.{Some}
use Rattle.llb_ops.specs.declared.op.Kind.TheVariants.{Exec}
use Rattle.llb_loader.specs.declared.fault.Rule.TheVariants as rule
use Rattle.llb_findings.proofs.BrokenRules.{adds_rule, adds_three}
use Rattle.llb_findings.proofs.op_rules.add_caches.Goals as goal

pub returns : goal.returns
returns c = adds_three c.args.inputs.now (Some (Exec c.args.exec.now)) rule.NoCacheOpt rule.Sharing rule.CacheTwice _ _ _ _
    (adds_rule c.args.inputs.now (Some (Exec c.args.exec.now)) rule.NoCacheOpt _ _ _ tt (rw c.as_slice-mounts.ensures at c.all_have_options.ensures)
    c.in_ok-add_unless.ensures)
    (adds_rule c.args.inputs.now (Some (Exec c.args.exec.now)) rule.Sharing _ _ _ tt (rw c.as_slice-mounts.ensures at c.all_shared.ensures)
    c.in_ok-add_unless-2.ensures)
    (adds_rule c.args.inputs.now (Some (Exec c.args.exec.now)) rule.CacheTwice _ _ _ tt (rw c.as_slice-mounts.ensures at c.in_ok-apart.ensures)
    c.in_ok-add_unless-3.ensures)
