use Rattle.llb_loader.proofs.OutputNumbers.{IsTaking}
use Rattle.llb_loader.proofs.indices.are_outputs.Given as goal

abbrev pub invariant-loop-output : goal.invariant-loop-output
invariant-loop-output l = IsTaking l.outputs l.seen.items l.output-index
