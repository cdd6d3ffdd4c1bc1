use Rattle.std.proofs.Common.{◌≡◌, map, sym, ap, ◌∙◌, rules}
use Rattle.std.specs.Prelude.{Some}
use Rattle.llb_ops.specs.declared.merge.MergeInput.{MergeInput}
use Rattle.llb_ops.specs.declared.op.Kind.TheVariants as kind
use Rattle.llb_model.specs.Program.{LayInput, steps_of}
use Rattle.llb_execution.proofs.MicroStepEquality.{laid_by}
use Rattle.llb_execution.proofs.steps.by_kind.Goals as goal

pub returns-in_ok-numbers-in-Some-Merge : goal.returns-in_ok-numbers-in-Some-Merge
returns-in_ok-numbers-in-Some-Merge c =
    let inputs = c.in-Some-Merge.merge.inputs in
    let is : c.args.kind.now ≡ Some (kind.Merge c.in-Some-Merge.merge) = search rules in
    let numbers : c.in_ok-numbers-in-Some-Merge.numbers.items ≡ map (λ (i : MergeInput). i.input) inputs = search rules in
    ap (map LayInput) numbers ∙ laid_by inputs ∙ sym (ap (λ k. steps_of k c.args.script.now) is)
