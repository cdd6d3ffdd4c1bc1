use Rattle.std.proofs.Common.{◌≡◌, ◌∙◌, rules, sym, ap}
use Rattle.std.specs.Prelude.{Some}
use Rattle.std.specs.List.{list_any}
use Rattle.llb_ops.specs.declared.op.Kind.TheVariants as kind
use Rattle.llb_model.specs.Program.{steps_of}
use Rattle.llb_laws.specs.ContentLaws.{step_writes_mark}
use Rattle.llb_laws.proofs.WritesAndDigests.{lays_write}
use Rattle.llb_laws.proofs.token_byte_writers.op_writes_mark.Goals as goal

pub returns-in-Some-Merge : goal.returns-in-Some-Merge
returns-in-Some-Merge c =
    let is : c.args.kind.now ≡ Some (kind.Merge c.in-Some-Merge.merge) = search rules in
    sym (lays_write c.in-Some-Merge.merge.inputs) ∙ ap (λ k. list_any step_writes_mark (steps_of k c.args.script.now)) (sym is)
