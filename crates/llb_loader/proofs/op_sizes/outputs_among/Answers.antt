use Rattle.std.proofs.Common.{arith, sym, ◌∙◌}
use Rattle.llb_ops.specs.declared.file_op.Action.{Action}
use Rattle.llb_loader.proofs.OutputNumbers.{count_more_yes, count_more_no}
use Rattle.llb_loader.proofs.op_sizes.outputs_among.Goals as goal
use Rattle.llb_loader.proofs.op_sizes.outputs_among.Goals.{then-has_output, else-has_output}

pub loop-action-preserved : goal.loop-action-preserved
loop-action-preserved c = elim c.if-has_output.branch [
  | then-has_output w ↦ (
      let m = count_more_yes (λ (x : Action). x.output) c.args.actions.now c.loop-action.action-index c.action-item.result
      c.loop-action-test.true c.action-item.is (sym c.has_output.ensures ∙ w.if-has_output.true) in
      record { counted = omega (arith, m, w.count-is); small = omega (arith, w.count-is) })
  | else-has_output w ↦ (
      let m = count_more_no (λ (x : Action). x.output) c.args.actions.now c.loop-action.action-index c.action-item.result
      c.loop-action-test.true c.action-item.is (sym c.has_output.ensures ∙ w.if-has_output.false) in
      record { counted = omega (arith, m, w.count-is); small = omega (arith, w.count-is) })
]
