use Rattle.std.proofs.Common.{rules, ◌≡◌, ◌↔◌, ◌+◌, ◌<◌, ℕ, Bool, List, length, sym, ap, subst, arith}
use Rattle.std.specs.Prelude.{IsOk}
use Rattle.std.specs.List.{All}
use Rattle.std.proofs.lemmas.List.{length_push}
use Rattle.std.proofs.lemmas.List.Elements.{All-push}
use Rattle.llb_ops.specs.declared.op.Op.{Op}
use Rattle.llb_ops.specs.OpsWithinLimits.{IsWithinLimits}
use Rattle.llb_loader.specs.GraphOfRows.{op_at}
use Rattle.llb_loader.specs.WaitingRows.{IsMarked}
use Rattle.llb_findings.specs.Findings.{plan_for, IsFaultIn, op_or_none, reading_at, entry_at}
use Rattle.llb_findings.proofs.SelectionParts.{adds_joined_none, adds_joined}
use Rattle.llb_findings.proofs.RowFindings.{reading_row, entry_row, ops_push, marks_push, all_entries, all_read, all_marks}
use Rattle.llb_findings.proofs.row_findings.add_unread.Goals as goal

pub loop-k-init : goal.loop-k-init
loop-k-init c = record {
  adds = adds_joined_none (IsFaultIn (plan_for c.args.rows.now)) (entry_at c.args.rows.now) _;
  len = search rules;
  each = λ j l. absurd (omega (arith, l));
  within = search rules;
  marks = search rules;
  exact = λ j l. absurd (omega (arith, l));
}

pub loop-k-preserved : goal.loop-k-preserved
loop-k-preserved c =
    let i = c.loop-k.invariant in
    let reads = reading_row c.args.rows.now c.loop-k.k c.index-rows-k.result c.loop-k-test.true c.index-rows-k.is in
    let pushed = c.in_ok-push.ensures.items in
    let marked = c.in_ok-push-2.ensures.items in
    record {
      adds = adds_joined (IsFaultIn (plan_for c.args.rows.now)) c.loop-k.k (entry_at c.args.rows.now) _ _ _ i.adds
          (entry_row c.args.rows.now c.loop-k.k c.index-rows-k.result _ _ c.loop-k-test.true reads c.in_ok-op.ensures.adds);
      len = (let n = ap (λ (xs : List Op). length xs) pushed in let m = length_push c.loop-k.ops.items c.in_ok-op.op in let l = i.len in omega (
        arith,
        n,
        m,
        l,
      ));
      each = subst (λ (xs : List Op). (j : ℕ) → j < c.loop-k.k + 1 → op_at xs j ≡ op_or_none (reading_at c.args.rows.now j)) (sym pushed)
          (ops_push c.args.rows.now c.loop-k.ops.items c.in_ok-op.op c.loop-k.k c.index-rows-k.result i.len i.each reads c.in_ok-op.ensures.op);
      within = subst (λ (xs : List Op). All IsWithinLimits xs) (sym pushed) (All-push IsWithinLimits c.loop-k.ops.items c.in_ok-op.op i.within
          c.in_ok-op.ensures.within);
      marks = (let n = ap (λ (xs : List Bool). length xs) marked in let m = length_push c.loop-k.read.items c.in_ok-op.readable in let l = i.marks in
          omega (arith, n, m, l));
      exact = subst (λ (xs : List Bool). (j : ℕ) → j < c.loop-k.k + 1 → IsMarked xs j ↔ IsOk (reading_at c.args.rows.now j)) (sym marked)
          (marks_push c.args.rows.now c.loop-k.read.items c.in_ok-op.readable c.loop-k.k c.index-rows-k.result i.marks i.exact reads c.in_ok-op.ensures.read);
    }

pub returns-clause-ops : goal.returns-clause-ops
returns-clause-ops c = all_read c.args.rows.now c.loop-k.ops.items c.loop-k.k
    (let a = c.loop-k-test.false in let b = c.loop-k.auto.k-end in omega (arith, a, b)) c.loop-k.invariant.len c.loop-k.invariant.each

pub returns-clause-within : goal.returns-clause-within
returns-clause-within c = c.loop-k.invariant.within

pub returns-clause-read : goal.returns-clause-read
returns-clause-read c = all_marks c.args.rows.now c.loop-k.read.items c.loop-k.k
    (let a = c.loop-k-test.false in let b = c.loop-k.auto.k-end in omega (arith, a, b)) c.loop-k.invariant.marks c.loop-k.invariant.exact

pub returns-clause-adds : goal.returns-clause-adds
returns-clause-adds c = all_entries c.args.rows.now c.loop-k.k _ _
    (let a = c.loop-k-test.false in let b = c.loop-k.auto.k-end in omega (arith, a, b)) c.loop-k.invariant.adds
