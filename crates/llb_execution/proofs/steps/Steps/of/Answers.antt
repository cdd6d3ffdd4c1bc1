use Rattle.std.proofs.Common.{◌<◌, ◌^◌, ◌∙◌, length, sym, ap, subst, rules}
use Rattle.llb_model.proofs.VertexKinds.{counted_by}
use Rattle.llb_execution.proofs.steps.Steps.of.Goals as goal

pub returns-clause-count : goal.returns-clause-count
returns-clause-count c = λ is. ap length c.in_ok-by.ensures ∙ sym (counted_by c.args.vertex.now c.args.vertex.now.op.kind is)

pub returns-clause-few : goal.returns-clause-few
returns-clause-few c =
    let few : c.args.vertex.now.steps < 2 ^ 32 = search rules in
    λ is. subst (λ n. n < 2 ^ 32) (counted_by c.args.vertex.now c.args.vertex.now.op.kind is ∙ ap length (sym c.in_ok-by.ensures)) few
