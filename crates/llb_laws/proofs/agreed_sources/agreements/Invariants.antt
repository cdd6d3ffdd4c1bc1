use Rattle.std.proofs.Common.{◌≡◌, ◌↔◌, ◌<◌, ◌≤◌, ℕ, true, false, length, Some, slice_get, slice_index_or}
use Rattle.llb_loader.specs.declared.graph.Vertex.{Vertex}
use Rattle.llb_laws.specs.AgreedSources.{VertexAgrees}
use Rattle.llb_laws.proofs.agreed_sources.agreements.Given as goal

abbrev pub invariant-loop-vertex : goal.invariant-loop-vertex
invariant-loop-vertex l = record {
  as_many : length l.marks.items ≡ l.vertex-index;
  within : l.vertex-index ≤ length l.vertices;
  exact : (k : ℕ) (x : Vertex) → k < l.vertex-index → slice_get l.vertices k ≡ Some x
      → (slice_index_or l.marks.items k false ≡ true) ↔ VertexAgrees l.vertices l.locals l.newer x;
}
