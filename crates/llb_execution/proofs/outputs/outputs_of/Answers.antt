use Rattle.std.proofs.Common.{◌≡◌, ◌∙◌, ap, sym, map, length, List, rules}
use Rattle.std.specs.List.{range_with_len}
use Rattle.llb_ops.specs.declared.file_op.Action.{Action}
use Rattle.llb_model.specs.Program.{outputs_of, tree_for}
use Rattle.llb_mount.specs.declared.shown_tree.Shown.{Shown}
use Rattle.llb_loader.specs.Rules.{mount_outputs}
use Rattle.llb_execution.specs.ModelValues.{own_of}
use Rattle.llb_execution.specs.Outputs.{numbers_of, tree_by}
use Rattle.llb_execution.proofs.OutputPlaces.{program_with, outputs_of_local, outputs_of_layers, outputs_of_files, outputs_of_mounts}
use Rattle.llb_execution.proofs.outputs.outputs_of.Goals as goal

pub returns-in-Local : goal.returns-in-Local
returns-in-Local c =
    let v = c.args.vertex.now in
    let n = length c.args.outputs.items in
    c.place_first.ensures ∙ outputs_of_local v c.in-Local.tree n c.args.outputs.items c.requires
    ∙ ap (λ w. outputs_of (program_with v n) (own_of w)) (sym c.in-Local.is)

pub returns-in-Layers : goal.returns-in-Layers
returns-in-Layers c =
    let v = c.args.vertex.now in
    let n = length c.args.outputs.items in
    c.place_first-in-Layers.ensures ∙ outputs_of_layers v c.in-Layers.field-0.items c.in-Layers.tree n c.args.outputs.items c.requires
    ∙ ap (λ w. outputs_of (program_with v n) (own_of w)) (sym c.in-Layers.is)

pub returns-in-Files : goal.returns-in-Files
returns-in-Files c =
    let v = c.args.vertex.now in
    let n = length c.args.outputs.items in
    let acted = λ (actions : List Action). map (λ i. tree_by i (numbers_of actions) c.in-Files.results.items) (range_with_len 0 n) in
    outputs_of_files v c.in-Files.field-0.items c.in-Files.results.items c.place_all.result.items n (c.place_all.ensures ∙ ap acted c.actions_of.ensures)
    ∙ ap (λ w. outputs_of (program_with v n) (own_of w)) (sym c.in-Files.is)

pub returns : goal.returns
returns c =
    let v = c.args.vertex.now in
    let n = length c.args.outputs.items in
    let given = mount_outputs c.mounts_of.result.now in
    let mounts : c.into_vec-mounts.result.items ≡ c.in-Mounted.view = search rules in
    let shown = λ (m : List Shown). map (λ i. tree_for i given m) (range_with_len 0 n) in
    outputs_of_mounts v c.in-Mounted.view c.in-Mounted.field-1.items c.in-Mounted.field-2 given c.place_shown.result.items n
    (ap mount_outputs c.mounts_of.ensures) (c.place_shown.ensures ∙ ap shown mounts)
    ∙ ap (λ w. outputs_of (program_with v n) (own_of w)) (sym c.in-Mounted.is)
