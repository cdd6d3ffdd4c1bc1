use Rattle.std.proofs.Common.{◌≡◌, ◌<◌, ℕ, false, Some}
use Rattle.std.specs.Prelude.{slice_get}
use Rattle.std.specs.List.{list_any}
use Rattle.llb_loader.specs.declared.graph.Vertex.{Vertex}
use Rattle.llb_model.specs.Program.{program_of}
use Rattle.llb_laws.specs.ContentLaws.{step_digests}
use Rattle.llb_laws.proofs.token_plan.some_makes_digest.Given as goal

abbrev pub invariant-loop-vertex : goal.invariant-loop-vertex
invariant-loop-vertex l =
    (k : ℕ) (x : Vertex) → k < l.vertex-index → slice_get l.graph.vertices k ≡ Some x → list_any step_digests (program_of x).steps ≡ false
