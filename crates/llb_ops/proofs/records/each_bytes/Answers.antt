use Rattle.std.proofs.Common.{true, false, eq-eqb, ap, ◌++◌, ◌∷◌, [], ◌∙◌}
use Rattle.std.proofs.lemmas.Bool.{ne_eqb}
use Rattle.llb_ops.proofs.RecordAppending.{payloads_more}
use Rattle.llb_ops.proofs.records.each_bytes.Goals as goal
use Rattle.llb_ops.proofs.records.each_bytes.Goals.{then-record-number+in_ok-bytes+in_ok-push, else-record-number}

pub loop-record-preserved : goal.loop-record-preserved
loop-record-preserved c =
    let rs = c.args.records.now in
    let n = c.args.number in
    let i = c.loop-record.record-index in
    elim c.if-record-number.branch [
      | then-record-number+in_ok-bytes+in_ok-push w ↦ payloads_more n rs i _ true c.loop-record.items.items _ c.loop-record-test.true
          (eq-eqb _ _ w.if-record-number.true) c.loop-record.invariant (ap (λ v. v.items) w.items-is ∙ w.in_ok-push.ensures.items
          ∙ ap (λ x. c.loop-record.items.items ++ x ∷ []) w.in_ok-bytes.ensures)
      | else-record-number w ↦ payloads_more n rs i _ false c.loop-record.items.items _ c.loop-record-test.true
          (ne_eqb _ _ w.if-record-number.false) c.loop-record.invariant (ap (λ v. v.items) w.items-is)
    ]
