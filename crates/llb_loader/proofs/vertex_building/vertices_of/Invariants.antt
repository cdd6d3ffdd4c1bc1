use Rattle.std.proofs.Common.{◌≡◌, ℕ, ◌<◌, ◌≤◌, length, slice_index}
use Rattle.llb_loader.specs.ReachedRows.{lists}
use Rattle.llb_loader.specs.RowLookup.{row_at}
use Rattle.llb_loader.specs.GraphOfRows.{op_at}
use Rattle.llb_loader.specs.VertexBuilding.{AreBuilt}
use Rattle.llb_loader.proofs.vertex_building.vertices_of.Given as goal

abbrev pub invariant-loop-row : goal.invariant-loop-row
invariant-loop-row l = record {
  len : length l.vertices.items ≡ l.row-index;
  built : AreBuilt l.fn.rows.items l.fn.ops.items (lists l.links) l.ranks l.order l.vertices.items l.row-index;
  rows_len : length l.rows.items ≡ length l.fn.rows.items;
  ops_len : length l.ops.items ≡ length l.fn.rows.items;
  kept_rows : (i : ℕ) → l.row-index ≤ i → i < length l.order → row_at l.rows.items (slice_index l.order i) ≡ row_at l.fn.rows.items (slice_index l.order i);
  kept : (i : ℕ) → l.row-index ≤ i → i < length l.order → op_at l.ops.items (slice_index l.order i) ≡ op_at l.fn.ops.items (slice_index l.order i);
}
