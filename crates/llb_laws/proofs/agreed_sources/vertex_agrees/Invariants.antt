use Rattle.std.proofs.Common.{◌≡◌, ◌<◌, ℕ, Some, slice_get}
use Rattle.llb_loader.specs.declared.graph.Edge.{Edge}
use Rattle.llb_laws.specs.AgreedSources.{EdgeAgrees}
use Rattle.llb_laws.proofs.agreed_sources.vertex_agrees.Given as goal

abbrev pub invariant-loop-number : goal.invariant-loop-number
invariant-loop-number l =
    (i : ℕ) (e : Edge) → i < l.number → slice_get l.vertex.inputs i ≡ Some e → EdgeAgrees l.vertices l.locals l.newer l.vertex.op.kind i e
