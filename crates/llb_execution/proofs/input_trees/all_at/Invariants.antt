use Rattle.std.specs.Prelude.{vec_capacity}
use Rattle.llb_execution.proofs.InputTrees.{GatheredSoFar}
use Rattle.llb_execution.proofs.input_trees.all_at.Given as goal

abbrev pub invariant-loop-edge : goal.invariant-loop-edge
invariant-loop-edge g l = GatheredSoFar (g.O.Outputs.ending l.outputs) l.edges l.edge-index l.trees.items (vec_capacity l.trees)
