use Rattle.std.proofs.Common.{◌≡◌, ℕ, ◌<◌, Some, slice_get}
use Rattle.llb_loader.specs.declared.graph.Vertex.{Vertex}
use Rattle.llb_laws.specs.MatchingMarks.{HaveOneMark, IsLike}
use Rattle.llb_laws.proofs.matching.first_like.Given as goal

abbrev pub invariant-loop-k : goal.invariant-loop-k
invariant-loop-k l = (k : ℕ) (x : Vertex) → k < l.k → slice_get l.vertices k ≡ Some x → ¬ IsLike (HaveOneMark l.marks l.others) x l.vertex
