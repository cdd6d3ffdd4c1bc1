use Rattle.std.proofs.Common.{◌<◌, pos, ap, arith, sym, ◌∙◌, length}
use Rattle.std.proofs.lemmas.List.{get_or_default}
use Rattle.llb_loader.specs.Rules.{none, is_output, count_outputs, output_at}
use Rattle.llb_loader.proofs.RowReadsAndMarks.{mark_read}
use Rattle.llb_loader.proofs.OutputNumbers.{taking_start, taking_skip, taking_mark, taking_end, outside, twice, more_yes, more_no, is_none_from}
use Rattle.llb_loader.proofs.OutputNumbers.{not_none_from, true_when, false_when, below_at}
use Rattle.llb_loader.proofs.indices.are_outputs.Goals as goal
use Rattle.llb_loader.proofs.indices.are_outputs.Goals.{then-is_output+in-Some+else-index, else-is_output}

pub loop-output-init : goal.loop-output-init
loop-output-init c = rw (c.in_ok-seen.ensures.items_if_clones_equal (λ y e. e))
    (taking_start c.args.outputs.now c.count_among-count.result c.count_among-count.ensures)

pub returns-in_default : goal.returns-in_default
returns-in_default c =
    let read = get_or_default c.args.outputs.now c.loop-output.output-index none (pos 0) c.loop-output-test.true in
    let named = not_none_from (output_at c.args.outputs.now c.loop-output.output-index) (ap is_output read ∙ sym c.if-is_output.ensures) in
    false_when (outside c.args.outputs.now c.loop-output.output-index named (rw (read, ← c.count_among-count.ensures) c.in_default.ensures))

pub returns-then-index : goal.returns-then-index
returns-then-index c =
    let read = get_or_default c.args.outputs.now c.loop-output.output-index none (pos 0) c.loop-output-test.true in
    let h : c.in-Some.place < length c.loop-output.seen.items =
    (let l = c.loop-output.invariant.len in let e = c.count_among-count.ensures in let b = c.in-Some.ensures.0 in omega (arith, l, e, b)) in
    let m = mark_read c.loop-output.seen.items c.in-Some.place c.index.result.now h c.index.ensures ∙ c.if-index.true in
    false_when (twice c.args.outputs.now c.loop-output.seen.items c.loop-output.output-index c.in-Some.place
    (read ∙ c.in-Some.ensures.1) m c.loop-output.invariant)

pub loop-output-preserved : goal.loop-output-preserved
loop-output-preserved c =
    let read = get_or_default c.args.outputs.now c.loop-output.output-index none (pos 0) c.loop-output-test.true in
    elim c.if-is_output.branch [
      | then-is_output+in-Some+else-index w ↦ (
          let h : w.in-Some.place < length c.loop-output.seen.items =
          (let l = c.loop-output.invariant.len in let e = c.count_among-count.ensures in let b = w.in-Some.ensures.0 in omega (arith, l, e, b)) in
          let small : w.in-Some.place < count_outputs c.args.outputs.now =
          (let e = c.count_among-count.ensures in let b = w.in-Some.ensures.0 in omega (arith, e, b)) in
          let fresh = mark_read c.loop-output.seen.items w.in-Some.place w.index.result.now h w.index.ensures ∙ w.if-index.false in
          let count = more_yes c.args.outputs.now c.loop-output.output-index c.loop-output-test.true (ap is_output read ∙ sym w.if-is_output.ensures) in
          let at = read ∙ w.in-Some.ensures.1 in
          rw w.seen-is (taking_mark _ _ _ _ at small fresh (below_at _ _ _ at small) count c.loop-output.invariant))
      | else-is_output w ↦ (
          let count = more_no c.args.outputs.now c.loop-output.output-index c.loop-output-test.true (ap is_output read ∙ sym w.if-is_output.ensures) in
          rw w.seen-is (taking_skip _ _ _ (is_none_from (output_at c.args.outputs.now c.loop-output.output-index)
          (ap is_output read ∙ sym w.if-is_output.ensures)) count c.loop-output.invariant))
    ]

pub returns : goal.returns
returns c = true_when (taking_end c.args.outputs.now c.loop-output.seen.items c.loop-output.output-index
    (let h = c.loop-output-test.false in omega (arith, h)) c.loop-output.invariant)
