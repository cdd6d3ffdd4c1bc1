use Rattle.std.proofs.Common.{Some}
use Rattle.llb_ops.specs.declared.op.Kind.TheVariants.{Source}
use Rattle.llb_loader.specs.declared.fault.Rule.TheVariants as rule
use Rattle.llb_findings.proofs.BrokenRules.{adds_rule}
use Rattle.llb_findings.proofs.op_rules.add_source.Goals as goal

pub returns : goal.returns
returns c = λ inputs. adds_rule inputs (Some (Source c.args.source.now)) rule.LocalName _ _ _ tt c.has_name.ensures c.in_ok-add_unless.ensures
