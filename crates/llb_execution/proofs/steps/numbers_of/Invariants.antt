use Rattle.llb_ops.specs.declared.merge.MergeInput.{MergeInput}
use Rattle.llb_execution.proofs.Lists.{Copied}
use Rattle.llb_execution.proofs.steps.numbers_of.Given as goal

abbrev pub invariant-loop-input : goal.invariant-loop-input
invariant-loop-input l = Copied (λ (i : MergeInput). i.input) l.inputs l.input-index l.numbers.items
