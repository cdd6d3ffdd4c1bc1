use Rattle.llb_laws.specs.KeptOutputs.{ArePlaced}
use Rattle.llb_laws.proofs.kept_outputs.copies_of.Given as goal

abbrev pub invariant-loop-w : goal.invariant-loop-w
invariant-loop-w l = ArePlaced l.vertices l.kept l.others l.w l.copies.items
