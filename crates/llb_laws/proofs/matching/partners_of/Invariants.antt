use Rattle.llb_laws.proofs.MatchingMarks.{PartneredTo}
use Rattle.llb_laws.proofs.matching.partners_of.Given as goal

abbrev pub invariant-loop-w : goal.invariant-loop-w
invariant-loop-w l = PartneredTo l.vertices l.marks l.others l.w l.partners.items
