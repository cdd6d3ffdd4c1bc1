use Rattle.std.proofs.Common.{◌≡◌, ◌⊎◌, ◌↔◌, ℕ, length, map, take}
use Rattle.std.specs.List.{Contains}
use Rattle.llb_loader.specs.declared.graph.Edge.{Edge}
use Rattle.llb_loader.specs.WaitingRows.{IsMarked}
use Rattle.llb_laws.proofs.token_plan.mark_inputs.Given as goal

abbrev pub invariant-loop-edge : goal.invariant-loop-edge
invariant-loop-edge l = record {
  count : length l.marks.items ≡ length l.fn.marks.items;
  marked : (k : ℕ) → IsMarked l.marks.items k
      ↔ (IsMarked l.fn.marks.items k ⊎ Contains (take l.edge-index (map (λ (e : Edge). e.vertex) l.edges)) k);
}
