use Rattle.std.proofs.Common.{arith, sym, ◌∙◌}
use Rattle.llb_ops.specs.declared.exec.Mount.{Mount}
use Rattle.llb_loader.proofs.OutputNumbers.{count_more_yes, count_more_no}
use Rattle.llb_loader.proofs.op_sizes.mount_outputs_among.Goals as goal
use Rattle.llb_loader.proofs.op_sizes.mount_outputs_among.Goals.{then-mount_has_output, else-mount_has_output}

pub loop-mount-preserved : goal.loop-mount-preserved
loop-mount-preserved c = elim c.if-mount_has_output.branch [
  | then-mount_has_output w ↦ (
      let m = count_more_yes (λ (x : Mount). x.output) c.args.mounts.now c.loop-mount.mount-index c.mount-item.result
      c.loop-mount-test.true c.mount-item.is (sym c.mount_has_output.ensures ∙ w.if-mount_has_output.true) in
      record { counted = omega (arith, m, w.count-is); small = omega (arith, w.count-is) })
  | else-mount_has_output w ↦ (
      let m = count_more_no (λ (x : Mount). x.output) c.args.mounts.now c.loop-mount.mount-index c.mount-item.result c.loop-mount-test.true
      c.mount-item.is (sym c.mount_has_output.ensures ∙ w.if-mount_has_output.false) in
      record { counted = omega (arith, m, w.count-is); small = omega (arith, w.count-is) })
]
