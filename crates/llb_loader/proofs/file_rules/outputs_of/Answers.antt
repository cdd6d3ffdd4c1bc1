use Rattle.std.proofs.Common.{◌≡◌, ◌∙◌, ◌++◌, ◌∷◌, [], List, ℤ, take, ap, sym, arith, to_z, of_z, w64}
use Rattle.std.proofs.lemmas.Int.{to_z-of_z}
use Rattle.std.proofs.lemmas.List.{map_more}
use Rattle.llb_ops.specs.declared.file_op.Action.{Action}
use Rattle.llb_loader.specs.Rules.{outputs_of}
use Rattle.llb_loader.proofs.file_rules.outputs_of.Goals as goal

pub loop-action-preserved : goal.loop-action-preserved
loop-action-preserved c =
    let xs = c.args.actions.now in
    let i = c.loop-action.action-index in
    let pushed : to_z w64 (of_z w64 c.action-item.result.output) ≡ c.action-item.result.output = grind (arith, to_z-of_z) in
    c.in_ok-push.ensures.items ∙ ap (λ (z : ℤ). c.loop-action.outputs.items ++ z ∷ []) pushed
    ∙ ap (λ (ys : List ℤ). ys ++ c.action-item.result.output ∷ []) c.loop-action.invariant
    ∙ ap (λ (a : Action). outputs_of (take i xs) ++ a.output ∷ []) c.action-item.is
    ∙ sym (map_more (λ (a : Action). a.output) xs i c.action-item.result c.loop-action-test.true)
