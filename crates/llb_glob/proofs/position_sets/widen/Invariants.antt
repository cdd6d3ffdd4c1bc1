use Rattle.llb_glob.proofs.PositionSetMoves.{IsWidened}
use Rattle.llb_glob.proofs.position_sets.widen.Given as goal

abbrev pub invariant-loop-i : goal.invariant-loop-i
invariant-loop-i l = IsWidened l.initial.places l.places l.i l.last
