use Rattle.std.proofs.Common.{[], ◌∷◌, arith}
use Rattle.llb_loader.specs.declared.fault.LoadFault.TheVariants.{Collision}
use Rattle.llb_findings.specs.Findings.{plan_for, IsFaultIn}
use Rattle.llb_findings.proofs.SelectionParts.{adds_joined_none, adds_joined, adds_if}
use Rattle.llb_findings.proofs.RowFindings.{all_collisions}
use Rattle.llb_findings.proofs.row_findings.add_collisions.Goals as goal

pub loop-k-init : goal.loop-k-init
loop-k-init c = adds_joined_none (IsFaultIn (plan_for c.args.rows.now)) (λ k. Collision k ∷ []) _

pub loop-k-preserved : goal.loop-k-preserved
loop-k-preserved c = adds_joined (IsFaultIn (plan_for c.args.rows.now)) c.loop-k.k (λ k. Collision k ∷ []) _ _ _ c.loop-k.invariant
    (adds_if (IsFaultIn (plan_for c.args.rows.now)) (Collision c.loop-k.k) c.collides.result _ _ c.collides.ensures c.in_ok-add_if.ensures)

pub returns : goal.returns
returns c = all_collisions c.args.rows.now c.loop-k.k _ _ (let a = c.loop-k-test.false in let b = c.loop-k.auto.k-end in omega (arith, a, b)) c.loop-k.invariant
