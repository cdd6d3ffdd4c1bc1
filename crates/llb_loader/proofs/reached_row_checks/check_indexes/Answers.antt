use Rattle.std.proofs.Common.{◌≡◌, ℕ, ◌<◌, cond, eqb, false, length, List, get_or, sym, ◌∙◌, ap, subst, arith}
use Rattle.llb_ops.specs.declared.op.Op.{Op}
use Rattle.llb_loader.specs.ReachedRows.{lists, inputs}
use Rattle.llb_loader.specs.GraphOfRows.{op_at}
use Rattle.llb_loader.specs.ReachedRowChecks.{FitsAll, asked_of}
use Rattle.llb_loader.proofs.FirstRowOfDigest.{below_step}
use Rattle.llb_loader.proofs.OpAndInputReads.{op_read}
use Rattle.llb_loader.proofs.RowReadsAndMarks.{inputs_at}
use Rattle.llb_loader.proofs.reached_row_checks.check_indexes.Goals as goal

pub loop-k-preserved : goal.loop-k-preserved
loop-k-preserved c =
    let k = c.loop-k.k in
    let op = op_read c.args.ops.now c.loop-k.k c.index-ops-k.result c.loop-k-test.true c.index-ops-k.is in
    let again = op_read c.args.ops.now c.loop-k.k c.index-ops-k-in-loop-k.result c.loop-k-test.true c.index-ops-k-in-loop-k.is in
    let h : c.loop-k.k < length c.args.links.now = (let l = c.requires.links in let t = c.loop-k-test.true in omega (arith, l, t)) in
    let names = inputs_at c.args.links.now c.loop-k.k c.index-links-k.result h c.index-links-k.is ∙ sym c.as_slice.ensures.value in
    let asked : asked_of c.args.ops.now c.args.seen.now c.args.terminal c.loop-k.k ≡ c.asked_inputs-asked.result =
    ap (λ (o : Op). cond (get_or c.args.seen.now c.loop-k.k false) (length o.inputs) (cond (eqb c.loop-k.k c.args.terminal) 1 0)) op
    ∙ sym c.asked_inputs-asked.ensures in
    below_step (λ j. FitsAll c.args.counts.now (inputs (lists c.args.links.now) j) (op_at c.args.ops.now j)
    (asked_of c.args.ops.now c.args.seen.now c.args.terminal j)) c.loop-k.k c.loop-k.invariant
    (subst (λ (n : ℕ). FitsAll c.args.counts.now (inputs (lists c.args.links.now) c.loop-k.k) (op_at c.args.ops.now c.loop-k.k) n) (sym asked)
    (subst (λ (o : Op). FitsAll c.args.counts.now (inputs (lists c.args.links.now) c.loop-k.k) o c.asked_inputs-asked.result) (sym again)
    (subst (λ (xs : List ℕ). FitsAll c.args.counts.now xs c.index-ops-k-in-loop-k.result c.asked_inputs-asked.result) (sym names) c.in_default.ensures)))
