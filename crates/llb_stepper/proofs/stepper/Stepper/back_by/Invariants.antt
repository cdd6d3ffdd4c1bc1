use Rattle.llb_stepper.proofs.EventSequences.{BackTo}
use Rattle.llb_stepper.proofs.stepper.Stepper.back_by.Given as goal

abbrev pub invariant-loop-i : goal.invariant-loop-i
invariant-loop-i l = BackTo l.fn.self l.self l._i
