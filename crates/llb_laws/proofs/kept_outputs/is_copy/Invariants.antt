use Rattle.std.proofs.Common.{ℕ, ◌<◌}
use Rattle.llb_laws.specs.RenamedAndKeptSources.{IsEdgeFrom}
use Rattle.llb_laws.specs.MatchingMarks.{edge_at}
use Rattle.llb_laws.specs.KeptOutputs.{origin_at}
use Rattle.llb_laws.proofs.kept_outputs.is_copy.Given as goal

abbrev pub invariant-loop-i : goal.invariant-loop-i
invariant-loop-i l = (k : ℕ) → k < l.i → IsEdgeFrom (origin_at l.kept l.others l.copies (edge_at l.other k).vertex) (edge_at l.vertex k) (edge_at l.other k)
