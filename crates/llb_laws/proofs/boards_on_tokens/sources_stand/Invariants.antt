use Rattle.std.proofs.Common.{◌≡◌, ◌<◌, ℕ, false, get_or, Some}
use Rattle.std.specs.Prelude.{slice_get}
use Rattle.llb_loader.specs.declared.graph.Vertex.{Vertex}
use Rattle.llb_laws.specs.TokenLists.{SourceStands, StandsFor}
use Rattle.llb_laws.proofs.boards_on_tokens.sources_stand.Given as goal

abbrev pub invariant-loop-v : goal.invariant-loop-v
invariant-loop-v l = (k : ℕ) (x : Vertex) → k < l.v → slice_get l.graph.vertices k ≡ Some x
    → SourceStands (StandsFor l.contents (get_or l.marks k false)) l.tokens l.locals x
