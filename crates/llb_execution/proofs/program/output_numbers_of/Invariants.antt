use Rattle.llb_ops.specs.declared.exec.Mount.{Mount}
use Rattle.llb_execution.proofs.Lists.{Copied}
use Rattle.llb_execution.proofs.program.output_numbers_of.Given as goal

abbrev pub invariant-loop-mount : goal.invariant-loop-mount
invariant-loop-mount l = Copied (λ (m : Mount). m.output) l.mounts l.mount-index l.numbers.items
