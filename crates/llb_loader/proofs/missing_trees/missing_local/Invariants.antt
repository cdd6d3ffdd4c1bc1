use Rattle.llb_loader.proofs.MissingTrees.{AsMissing}
use Rattle.llb_loader.proofs.missing_trees.missing_local.Given as goal

abbrev pub invariant-loop-vertex : goal.invariant-loop-vertex
invariant-loop-vertex l = AsMissing l.locals l.graph.vertices l.vertex-index
