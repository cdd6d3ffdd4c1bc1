use Rattle.std.proofs.Common.{◌≡◌, ℕ, ◌<◌, Some, slice_get}
use Rattle.llb_loader.specs.declared.graph.Vertex.{Vertex}
use Rattle.llb_laws.specs.KeptOutputs.{IsKeptPlain}
use Rattle.llb_laws.proofs.kept_outputs.are_kept_plain.Given as goal

abbrev pub invariant-loop-w : goal.invariant-loop-w
invariant-loop-w l = (k : ℕ) (y : Vertex) → k < l.w → slice_get l.others k ≡ Some y → IsKeptPlain l.plains.items l.kept y
