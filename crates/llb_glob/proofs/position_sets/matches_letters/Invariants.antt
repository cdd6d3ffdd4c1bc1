use Rattle.std.proofs.Common.{drop}
use Rattle.llb_glob.specs.PositionSets.{AreStarts}
use Rattle.llb_glob.proofs.position_sets.matches_letters.Given as goal

abbrev pub invariant-loop-k : goal.invariant-loop-k
invariant-loop-k l = AreStarts (drop l.k l.items) l.name l.places
