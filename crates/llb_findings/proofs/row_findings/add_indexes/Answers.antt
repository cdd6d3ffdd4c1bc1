use Rattle.std.proofs.Common.{◌<◌, List, length, sym, subst, ap, arith}
use Rattle.llb_ops.specs.declared.op.Op.{Op}
use Rattle.llb_ops.specs.OpsWithinLimits.{IsWithinLimits}
use Rattle.llb_findings.proofs.OpsAndRules.{ops_len}
use Rattle.llb_findings.specs.Findings.{plan_for, IsFaultIn}
use Rattle.llb_findings.specs.FindingSteps.{indexes_at}
use Rattle.llb_findings.proofs.SelectionParts.{adds_joined_none, adds_joined}
use Rattle.llb_findings.proofs.RowFindings.{index_row, all_indexes}
use Rattle.llb_findings.proofs.row_findings.add_indexes.Goals as goal

pub loop-k-init : goal.loop-k-init
loop-k-init c = adds_joined_none (IsFaultIn (plan_for c.args.rows.now)) (indexes_at c.args.rows.now) _

pub loop-k-preserved : goal.loop-k-preserved
loop-k-preserved c = adds_joined (IsFaultIn (plan_for c.args.rows.now)) c.loop-k.k (indexes_at c.args.rows.now) _ _ _ c.loop-k.invariant
    (index_row c.args.rows.now c.args.seen.now c.args.terminal c.requires.seen c.requires.terminal c.args.counts.now c.args.ops.now c.loop-k.k
    c.index-ops-k.result _ _ c.requires.ops c.requires.counts c.loop-k-test.true c.index-ops-k.is c.in_ok-add_indexes_of.ensures)

pub returns : goal.returns
returns c = all_indexes c.args.rows.now c.loop-k.k _ _ (let a = c.loop-k-test.false in let b = c.loop-k.auto.k-end in omega (arith, a, b)) c.loop-k.invariant

pub bounds-ops-k : goal.bounds-ops-k
bounds-ops-k c = let n = ops_len c.args.rows.now in let m = ap (λ (os : List Op). length os) c.requires.ops in let t = c.loop-k-test.true in
    omega (arith, n, m, t)

pub add_indexes_of-requires-clause-counts : goal.add_indexes_of-requires-clause-counts
add_indexes_of-requires-clause-counts c = let n = ops_len c.args.rows.now in let m = ap (λ (os : List Op). length os) c.requires.ops in
    let t = c.requires.counts.len in omega (arith, n, m, t)

pub add_indexes_of-requires-clause-within : goal.add_indexes_of-requires-clause-within
add_indexes_of-requires-clause-within c =
    let below : c.loop-k.k < length c.args.ops.now = (let n = ops_len c.args.rows.now in let m = ap (λ (os : List Op). length os) c.requires.ops in
    let t = c.loop-k-test.true in omega (arith, n, m, t)) in
    subst (λ (o : Op). IsWithinLimits o) (sym c.index-ops-k.is) (c.requires.within c.loop-k.k c.index-ops-k.result below)
