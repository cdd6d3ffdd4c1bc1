use Rattle.std.proofs.Common.{◌≡◌, length, replicate, sym, ap, ◌∙◌}
use Rattle.std.proofs.lemmas.List.{length-replicate}
use Rattle.llb_tree.specs.Tree.{empty_tree}
use Rattle.llb_model.specs.Program.{program_of, outputs_of}
use Rattle.llb_execution.proofs.workspace.Workspace.into_outputs.Goals as goal

pub outputs_of-requires : goal.outputs_of-requires
outputs_of-requires c =
    c.requires ∙ ap (λ n. replicate n empty_tree) (sym (ap length c.requires ∙ length-replicate c.args.vertex.now.outputs empty_tree))

pub returns : goal.returns
returns c =
    let count : length c.args.outputs.items ≡ c.args.vertex.now.outputs = ap length c.requires ∙ length-replicate c.args.vertex.now.outputs empty_tree in
    c.outputs_of.ensures ∙ (λ i. outputs_of (record (program_of c.args.vertex.now) { outputs = count i }) (c.self.view_is i))
