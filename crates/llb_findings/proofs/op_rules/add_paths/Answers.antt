use Rattle.std.proofs.Common.{Some, ◌∙◌, ap}
use Rattle.llb_loader.specs.Mounts.{dests_of}
use Rattle.llb_ops.specs.declared.op.Kind.TheVariants.{Exec}
use Rattle.llb_loader.specs.declared.fault.Rule.TheVariants as rule
use Rattle.llb_findings.proofs.BrokenRules.{adds_rule, adds_three}
use Rattle.llb_findings.proofs.op_rules.add_paths.Goals as goal

pub returns : goal.returns
returns c = λ inputs.
    let d = c.in_ok-dests.ensures ∙ ap dests_of c.as_slice.ensures in
    let e = c.deref.ensures.value ∙ d in
    let f = c.deref-2.ensures.value ∙ d in
    adds_three inputs (Some (Exec c.args.exec.now)) rule.NoRoot rule.BadPath rule.SameDest _ _ _ _
    (adds_rule inputs (Some (Exec c.args.exec.now)) rule.NoRoot _ _ _ tt (rw f at c.has_root.ensures) c.in_ok-add_unless.ensures)
    (adds_rule inputs (Some (Exec c.args.exec.now)) rule.BadPath _ _ _ tt c.in_ok-read.ensures c.in_ok-add_unless-2.ensures)
    (adds_rule inputs (Some (Exec c.args.exec.now)) rule.SameDest _ _ _ tt (rw e at c.in_ok-apart.ensures) c.in_ok-add_unless-3.ensures)
