use Rattle.std.proofs.Common.{take}
use Rattle.std.specs.List.{All}
use Rattle.llb_laws.specs.TokenRuns.{SourceHasNames}
use Rattle.llb_laws.proofs.trees_with_names.locals_have_names.Given as goal

abbrev pub invariant-loop-vertex : goal.invariant-loop-vertex
invariant-loop-vertex l = All (SourceHasNames l.locals) (take l.vertex-index l.graph.vertices)
