use Rattle.std.proofs.Common.{◌-◌, [], ◌∷◌, length, sym, ◌∙◌, arith}
use Rattle.std.proofs.lemmas.Option.{slice_get_past}
use Rattle.llb_execution.specs.WorkspaceTrees.{Laid}
use Rattle.llb_execution.proofs.WorkspaceTreeNumbers.{file_input, behind_inputs}
use Rattle.llb_execution.proofs.workspace_trees.merge_part.Goals as goal

pub returns-then-i-inputs : goal.returns-then-i-inputs
returns-then-i-inputs c = sym (file_input c.args.inputs.now (Laid ∷ []) c.args.i c.if-i-inputs.true)

pub returns-then-i-inputs-2 : goal.returns-then-i-inputs-2
returns-then-i-inputs-2 c = sym (behind_inputs c.args.inputs.now (Laid ∷ []) c.args.i 0 (omega (arith, c.if-i-inputs-2.true)))

pub returns : goal.returns
returns c =
    let k = c.args.i - length c.args.inputs.now in
    sym (behind_inputs c.args.inputs.now (Laid ∷ []) c.args.i k (omega (arith, c.if-i-inputs.false))
    ∙ slice_get_past (Laid ∷ []) k (omega (arith, c.if-i-inputs.false, c.if-i-inputs-2.false)))
