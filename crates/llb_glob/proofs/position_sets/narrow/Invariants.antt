use Rattle.llb_glob.proofs.PositionSetMoves.{IsNarrowed}
use Rattle.llb_glob.proofs.position_sets.narrow.Given as goal

abbrev pub invariant-loop-i : goal.invariant-loop-i
invariant-loop-i l = IsNarrowed l.letter l.name l.initial.places l.places l.i
