use Rattle.std.proofs.Common.{◌≡◌, ℕ, ◌<◌, length, slice_index}
use Rattle.llb_loader.specs.GraphOfRows.{input_at}
use Rattle.llb_loader.specs.VertexBuilding.{edge_at, edge_to}
use Rattle.llb_loader.proofs.vertex_building.edges_of.Given as goal

abbrev pub invariant-loop-i : goal.invariant-loop-i
invariant-loop-i l = record {
  len : length l.edges.items ≡ l.i;
  edges : (j : ℕ) → j < l.i → edge_at l.edges.items j ≡ edge_to (slice_index l.ranks (slice_index l.named j)) (input_at l.op j);
}
