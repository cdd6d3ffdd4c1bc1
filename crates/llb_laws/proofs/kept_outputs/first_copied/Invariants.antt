use Rattle.llb_laws.specs.KeptOutputs.{CopiesNone}
use Rattle.llb_laws.proofs.kept_outputs.first_copied.Given as goal

abbrev pub invariant-loop-k : goal.invariant-loop-k
invariant-loop-k l = CopiesNone l.vertices l.kept l.others l.copies l.vertex l.k
