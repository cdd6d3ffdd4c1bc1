use Rattle.llb_laws.specs.KeptOutputs.{HaveTrees}
use Rattle.llb_laws.proofs.kept_outputs.locals_for.Given as goal

abbrev pub invariant-loop-w : goal.invariant-loop-w
invariant-loop-w l = HaveTrees l.board l.locals l.kept l.vertices l.w l.made
