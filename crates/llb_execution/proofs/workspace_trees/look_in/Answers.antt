use Rattle.std.proofs.Common.{Some, None, sym}
use Rattle.llb_execution.proofs.WorkspaceTreeNumbers.{seen_there, seen_past}
use Rattle.llb_execution.proofs.workspace_trees.look_in.Goals as goal

pub returns-in_default : goal.returns-in_default
returns-in_default c trees count = seen_past c.args.mounts.now c.args.numbers.now c.args.i trees (sym c.in_default.ensures)

pub returns-in-Some-last_place : goal.returns-in-Some-last_place
returns-in-Some-last_place c trees count =
    let t = c.in-Some.tree.now in
    seen_there c.args.mounts.now c.args.numbers.now c.args.i t trees (Some c.in-Some-last_place.k) (sym c.in-Some.ensures)
    (c.in-Some-last_place.ensures trees (Some t) count)

pub returns-in-None : goal.returns-in-None
returns-in-None c trees count =
    let t = c.in-Some.tree.now in
    seen_there c.args.mounts.now c.args.numbers.now c.args.i t trees None (sym c.in-Some.ensures) (c.in-None.ensures trees (Some t) count)
