use Rattle.std.proofs.Common.{◌≡◌, ◌+◌, ◌<◌, ℕ, List, Option, None, length, get_or, sym, ◌∙◌, ap, subst, arith}
use Rattle.llb_loader.specs.GraphOfRows.{op_at}
use Rattle.llb_findings.specs.FindingSteps.{IsCount}
use Rattle.std.proofs.lemmas.List.{length_push}
use Rattle.llb_loader.proofs.OpAndInputReads.{op_read}
use Rattle.llb_findings.proofs.RowFindings.{counts_push}
use Rattle.llb_findings.proofs.row_findings.counts_of.Goals as goal

pub loop-k-preserved : goal.loop-k-preserved
loop-k-preserved c =
    let items = c.in_ok-push.ensures.items in
    record {
      len = (let n = ap (λ (xs : List (Option ℕ)). length xs) items in let m = length_push c.loop-k.counts.items c.in_ok-count.count in
          let l = c.loop-k.invariant.len in omega (arith, n, m, l));
      each = subst (λ (xs : List (Option ℕ)). (j : ℕ) → j < c.loop-k.k + 1 → IsCount (op_at c.args.ops.now j) (get_or xs j None)) (sym items)
          (counts_push c.args.ops.now c.loop-k.counts.items c.loop-k.k c.index-ops-k.result c.in_ok-count.count c.loop-k.invariant.len c.loop-k.invariant.each
          (op_read c.args.ops.now c.loop-k.k c.index-ops-k.result c.loop-k-test.true c.index-ops-k.is) c.in_ok-count.ensures);
    }

pub returns : goal.returns
returns c =
    let same : c.loop-k.k ≡ length c.args.ops.now = (let a = c.loop-k-test.false in let b = c.loop-k.auto.k-end in omega (arith, a, b)) in
    record {
      len = c.loop-k.invariant.len ∙ same;
      each = λ j l. c.loop-k.invariant.each j (omega (arith, l, same));
    }
