use Rattle.std.proofs.Common.{rules}
use Rattle.std.specs.Prelude.{is_some}
use Rattle.llb_model.specs.Outcome.{inputs_from}
use Rattle.llb_execution.proofs.InputTrees.{there_next, there_missing, there_end}
use Rattle.llb_execution.proofs.input_trees.are_there.Goals as goal

pub loop-edge-preserved : goal.loop-edge-preserved
loop-edge-preserved g c =
    there_next (g.O.Outputs.ending c.args.outputs.now) c.args.edges.now c.loop-edge.edge-index c.in-Some._tree.now _ c.loop-edge.invariant
    c.loop-edge-test.true (search rules)

pub returns-in-None : goal.returns-in-None
returns-in-None g c =
    there_missing (g.O.Outputs.ending c.args.outputs.now) c.args.edges.now c.loop-edge.edge-index _ c.loop-edge.invariant c.loop-edge-test.true (search rules)

pub returns : goal.returns
returns g c = there_end (g.O.Outputs.ending c.args.outputs.now) c.args.edges.now c.loop-edge.edge-index _ c.loop-edge.invariant c.loop-edge-test.false
