use Rattle.std.proofs.Common.{List, length, ap, arith}
use Rattle.llb_ops.specs.declared.op.Op.{Op}
use Rattle.llb_findings.proofs.OpsAndRules.{ops_len}
use Rattle.llb_findings.specs.Findings.{plan_for, IsFaultIn}
use Rattle.llb_findings.specs.FindingSteps.{features_at}
use Rattle.llb_findings.proofs.SelectionParts.{adds_joined_none, adds_joined}
use Rattle.llb_findings.proofs.RowFindings.{feature_row, all_features}
use Rattle.llb_findings.proofs.row_findings.add_features.Goals as goal

pub loop-k-init : goal.loop-k-init
loop-k-init c = adds_joined_none (IsFaultIn (plan_for c.args.rows.now)) features_at _

pub loop-k-preserved : goal.loop-k-preserved
loop-k-preserved c = adds_joined (IsFaultIn (plan_for c.args.rows.now)) c.loop-k.k features_at _ _ _ c.loop-k.invariant
    (feature_row c.args.rows.now c.args.ops.now c.args.seen.now c.loop-k.k c.index-ops-k.result _ _ c.requires.ops c.requires.seen c.loop-k-test.true
    c.index-ops-k.is c.in_ok-add_features_of.ensures)

pub returns : goal.returns
returns c = all_features c.args.rows.now c.loop-k.k _ _ (let a = c.loop-k-test.false in let b = c.loop-k.auto.k-end in omega (arith, a, b)) c.loop-k.invariant

pub bounds-ops-k : goal.bounds-ops-k
bounds-ops-k c = let n = ops_len c.args.rows.now in let m = ap (λ (os : List Op). length os) c.requires.ops in let t = c.loop-k-test.true in
    omega (arith, n, m, t)
