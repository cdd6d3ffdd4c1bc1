use Rattle.llb_execution.proofs.RemainingMicroSteps.{AreDone}
use Rattle.llb_execution.proofs.remaining_micro_steps.do_further.Given as goal

abbrev pub invariant-loop-k : goal.invariant-loop-k
invariant-loop-k l = AreDone l.steps l.done l.initial.workspace l.initial.trees.items l.k l.workspace l.trees.items
