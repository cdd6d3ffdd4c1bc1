use Rattle.llb_loader.specs.ReachedRowChecks.{FitsAll}
use Rattle.llb_loader.proofs.reached_row_checks.first_bad.Given as goal

abbrev pub invariant-loop-i : goal.invariant-loop-i
invariant-loop-i l = FitsAll l.counts l.named l.op l.i
