use Rattle.std.proofs.Common.{◌≡◌, ◌∙◌, map, sym, ap, rules}
use Rattle.std.specs.Prelude.{Some, Option}
use Rattle.llb_ops.specs.declared.op.Kind.{Kind}
use Rattle.llb_ops.specs.declared.op.Kind.TheVariants as kind
use Rattle.llb_model.specs.Program.{Mounted, shown_of, workspace_on}
use Rattle.llb_execution.proofs.ExecViews.{exec_is_view}
use Rattle.llb_execution.proofs.workspace.own_on.Goals as goal

pub view_of-requires : goal.view_of-requires
view_of-requires c =
    let is : c.args.vertex.now.op.kind ≡ Some (kind.Exec c.in-Some-Exec.exec) = search rules in
    rw (c.as_slice-in-Some-Exec.ensures, c.get.ensures) (exec_is_view c.as_slice.result.now c.args.vertex.now c.in-Some-Exec.exec is c.requires.kind)

pub returns-in_ok-mounts-in-Some-Exec : goal.returns-in_ok-mounts-in-Some-Exec
returns-in_ok-mounts-in-Some-Exec c =
    let is : c.args.vertex.now.op.kind ≡ Some (kind.Exec c.in-Some-Exec.exec) = search rules in
    let shown : map (shown_of c.args.inputs.items) c.in-Some-Exec.exec.mounts ≡ c.in_ok-mounts-in-Some-Exec.mounts = search rules in
    sym (ap (λ (k : Option Kind). workspace_on c.args.locals.now c.args.vertex.now k c.args.inputs.items) is
    ∙ (λ i. Mounted (shown i) (sym c.requires.caches i) 0))
