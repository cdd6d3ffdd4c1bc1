use Rattle.std.proofs.Common.{◌≡◌, ◌<◌, ℕ, Some}
use Rattle.std.specs.Prelude.{slice_get}
use Rattle.llb_loader.specs.declared.graph.Vertex.{Vertex}
use Rattle.llb_laws.specs.TokenLists.{IsSpelled, SourceStands}
use Rattle.llb_laws.proofs.boards_on_tokens.are_spelled.Given as goal

abbrev pub invariant-loop-vertex : goal.invariant-loop-vertex
invariant-loop-vertex l = (k : ℕ) (x : Vertex) → k < l.vertex-index → slice_get l.graph.vertices k ≡ Some x
    → SourceStands (IsSpelled l.contents) l.tokens l.locals x
