use Rattle.std.proofs.Common.{◌≡◌, ◌↔◌, IfOk, IsTrue, List, rules, subst, sym}
use Rattle.std.specs.Prelude.{Some}
use Rattle.llb_ops.specs.declared.file_op.Action.{Action}
use Rattle.llb_ops.specs.declared.op.Kind.TheVariants as kind
use Rattle.llb_laws.specs.AgreedSources.{InputAgrees}
use Rattle.llb_laws.specs.CopiedPaths.{AllReadAlike}
use Rattle.llb_laws.proofs.agreed_sources.input_agrees.Goals as goal

pub returns-in-Some-File : goal.returns-in-Some-File
returns-in-Some-File c =
    let n = c.args.number in
    let t = c.args.first.now in
    let u = c.args.second.now in
    let is : c.args.kind.now ≡ Some (kind.File c.in-Some-File.file) = search rules in
    subst (λ k. IfOk c.actions_agree.result (λ b. IsTrue b ↔ InputAgrees k n t u)) (sym is)
    (subst (λ (xs : List Action). IfOk c.actions_agree.result (λ b. IsTrue b ↔ AllReadAlike xs n t u)) c.as_slice.ensures c.actions_agree.ensures)
