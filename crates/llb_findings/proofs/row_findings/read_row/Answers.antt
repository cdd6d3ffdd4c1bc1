use Rattle.std.proofs.Common.{◌≡◌, ◌++◌, true, false, Result, sym, ◌∙◌, ap, subst, arith}
use Rattle.llb_ops.specs.declared.op.Op.{Op}
use Rattle.llb_ops.specs.declared.fault.OpFault.{OpFault}
use Rattle.llb_ops.specs.Messages.{op_of}
use Rattle.llb_ops.specs.OpsWithinLimits.{IsWithinLimits}
use Rattle.llb_findings.specs.Findings.{op_or_none}
use Rattle.llb_findings.specs.FindingSteps.{unread}
use Rattle.llb_findings.proofs.OpsAndRules.{err_not_ok}
use Rattle.llb_findings.proofs.row_findings.read_row.Goals as goal

pub returns : goal.returns
returns c =
    let e = ap op_of (sym c.as_slice.ensures) ∙ c.in-Err.ensures.gives (sym c.is_memory.ensures ∙ c.if-is_memory.false) in
    record {
      op = c.no_op.ensures ∙ sym (ap op_or_none e);
      within = subst (λ (o : Op). IsWithinLimits o) (sym c.no_op.ensures) (record { inputs = omega arith; kind = tt });
      read = (λ t. absurd (let x : false ≡ true = t in cc), λ ok. absurd (err_not_ok (op_of c.args.row.now.bytes) c.in-Err.fault e ok));
      adds = c.in_ok-push.ensures.items ∙ sym (ap (λ (r : Result Op OpFault). c.args.found.now.items ++ unread c.args.k r) e);
    }
