use Rattle.std.proofs.Common.{◌≡◌, ◌∙◌, ◌++◌, ◌∷◌, [], List, ℤ, take, ap, sym, arith, to_z, of_z, w64}
use Rattle.std.proofs.lemmas.Int.{to_z-of_z}
use Rattle.std.proofs.lemmas.List.{map_more}
use Rattle.llb_ops.specs.declared.exec.Mount.{Mount}
use Rattle.llb_loader.specs.Rules.{mount_outputs}
use Rattle.llb_loader.proofs.exec_rules.outputs_of.Goals as goal

pub loop-mount-preserved : goal.loop-mount-preserved
loop-mount-preserved c =
    let xs = c.args.mounts.now in
    let i = c.loop-mount.mount-index in
    let pushed : to_z w64 (of_z w64 c.mount-item.result.output) ≡ c.mount-item.result.output = grind (arith, to_z-of_z) in
    c.in_ok-push.ensures.items ∙ ap (λ (z : ℤ). c.loop-mount.outputs.items ++ z ∷ []) pushed
    ∙ ap (λ (ys : List ℤ). ys ++ c.mount-item.result.output ∷ []) c.loop-mount.invariant
    ∙ ap (λ (m : Mount). mount_outputs (take i xs) ++ m.output ∷ []) c.mount-item.is
    ∙ sym (map_more (λ (m : Mount). m.output) xs i c.mount-item.result c.loop-mount-test.true)
