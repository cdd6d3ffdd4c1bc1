use Rattle.llb_laws.proofs.MatchingMarks.{MarkedTo}
use Rattle.llb_laws.proofs.matching.marks_of.Given as goal

abbrev pub invariant-loop-v : goal.invariant-loop-v
invariant-loop-v l = MarkedTo l.vertices l.v l.marks.items
