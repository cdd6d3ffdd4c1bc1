use Rattle.std.proofs.Common.{ℕ, ◌<◌}
use Rattle.llb_laws.specs.MatchingMarks.{HaveOneMark, edge_at}
use Rattle.llb_laws.proofs.matching.is_like.Given as goal

abbrev pub invariant-loop-i : goal.invariant-loop-i
invariant-loop-i l = (k : ℕ) → k < l.i → HaveOneMark l.marks l.others (edge_at l.vertex k) (edge_at l.other k)
