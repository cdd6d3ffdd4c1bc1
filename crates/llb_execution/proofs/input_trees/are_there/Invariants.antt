use Rattle.std.proofs.Common.{◌≡◌, drop}
use Rattle.std.specs.Prelude.{is_some}
use Rattle.llb_model.specs.Outcome.{inputs_from}
use Rattle.llb_execution.proofs.input_trees.are_there.Given as goal

abbrev pub invariant-loop-edge : goal.invariant-loop-edge
invariant-loop-edge g l =
    is_some (inputs_from (g.O.Outputs.ending l.outputs) (drop l.edge-index l.edges)) ≡ is_some (inputs_from (g.O.Outputs.ending l.outputs) l.edges)
