use Rattle.std.proofs.Common.{◌≡◌, ◌≤◌, length, vec_len}
use Rattle.std.specs.Prelude.{vec_capacity}
use Rattle.llb_work.proofs.PlainMarksAndKnownJobs.{MarkedSoFar}
use Rattle.llb_work.proofs.plain_vertices.plain_marks.Given as goal

abbrev pub invariant-loop-vertex : goal.invariant-loop-vertex
invariant-loop-vertex l = record {
  vertices : l.vertex-items ≡ l.board.build.graph.vertices;
  marked : MarkedSoFar l.board.build.graph.vertices l.vertex-index l.marks.items;
  len : vec_len l.marks ≡ l.vertex-index;
  room : length l.board.build.graph.vertices ≤ vec_capacity l.marks;
}
