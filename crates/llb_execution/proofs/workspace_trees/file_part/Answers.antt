use Rattle.std.proofs.Common.{◌-◌, length, sym, arith}
use Rattle.llb_execution.specs.WorkspaceTrees.{results_from}
use Rattle.llb_execution.proofs.WorkspaceTreeNumbers.{file_input, file_result, file_past}
use Rattle.llb_execution.proofs.workspace_trees.file_part.Goals as goal

pub returns-then-i-inputs : goal.returns-then-i-inputs
returns-then-i-inputs c = sym (file_input c.args.inputs.now (results_from 0 c.args.results.now) c.args.i c.if-i-inputs.true)

pub returns-then-a-results : goal.returns-then-a-results
returns-then-a-results c =
    sym (file_result c.args.inputs.now c.args.results.now c.args.i (c.args.i - length c.args.inputs.now) (omega (arith, c.if-i-inputs.false))
    c.if-a-results.true)

pub returns : goal.returns
returns c =
    sym (file_past c.args.inputs.now c.args.results.now c.args.i (c.args.i - length c.args.inputs.now) (omega (arith, c.if-i-inputs.false))
    c.if-a-results.false)
