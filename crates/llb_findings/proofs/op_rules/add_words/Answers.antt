use Rattle.std.proofs.Common.{Some}
use Rattle.llb_ops.specs.declared.op.Kind.TheVariants.{Exec}
use Rattle.llb_loader.specs.declared.fault.Rule.TheVariants as rule
use Rattle.llb_findings.proofs.BrokenRules.{adds_rule, adds_three}
use Rattle.llb_findings.proofs.op_rules.add_words.Goals as goal

pub returns : goal.returns
returns c = λ inputs. adds_three inputs (Some (Exec c.args.exec.now)) rule.NoMeta rule.NoArgs rule.NoMounts _ _ _ _
    (adds_rule inputs (Some (Exec c.args.exec.now)) rule.NoMeta _ _ _ tt c.has_meta.ensures c.in_ok-add_unless.ensures)
    (adds_rule inputs (Some (Exec c.args.exec.now)) rule.NoArgs _ _ _ tt c.has_word.ensures c.in_ok-add_unless-2.ensures)
    (adds_rule inputs (Some (Exec c.args.exec.now)) rule.NoMounts _ _ _ tt c.has_mount.ensures c.in_ok-add_unless-3.ensures)
