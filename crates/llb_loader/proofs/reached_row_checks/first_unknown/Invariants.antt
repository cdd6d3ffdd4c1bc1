use Rattle.llb_loader.specs.ReachedRowChecks.{NamesAll}
use Rattle.llb_loader.proofs.reached_row_checks.first_unknown.Given as goal

abbrev pub invariant-loop-i : goal.invariant-loop-i
invariant-loop-i l = NamesAll l.rows l.terminal l.op l.i
