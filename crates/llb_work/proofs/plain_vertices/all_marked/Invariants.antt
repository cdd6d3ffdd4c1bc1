use Rattle.std.proofs.Common.{◌≡◌, false, true, take}
use Rattle.std.specs.List.{list_all}
use Rattle.std.specs.Prelude.{unwrap_or, slice_get}
use Rattle.llb_loader.specs.declared.graph.Edge.{Edge}
use Rattle.llb_work.proofs.plain_vertices.all_marked.Given as goal

abbrev pub invariant-loop-edge : goal.invariant-loop-edge
invariant-loop-edge l = list_all (λ (e : Edge). unwrap_or (slice_get l.marks e.vertex) false) (take l.edge-index l.inputs) ≡ true
