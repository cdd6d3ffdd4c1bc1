use Rattle.std.proofs.Common.{true, false, eq-eqb, ap, ◌∙◌}
use Rattle.std.proofs.lemmas.Bool.{ne_eqb}
use Rattle.llb_ops.proofs.RecordAppending.{joined_more}
use Rattle.llb_ops.proofs.records.joined.Goals as goal
use Rattle.llb_ops.proofs.records.joined.Goals.{then-record-number+in_ok-extend_from_slice, else-record-number}

pub loop-record-preserved : goal.loop-record-preserved
loop-record-preserved c =
    let rs = c.args.records.now in
    let n = c.args.number in
    let i = c.loop-record.record-index in
    elim c.if-record-number.branch [
      | then-record-number+in_ok-extend_from_slice w ↦ joined_more n rs i _ true c.loop-record.out.items _ c.loop-record-test.true
          (eq-eqb _ _ w.if-record-number.true) c.loop-record.invariant (ap (λ v. v.items) w.out-is ∙ w.in_ok-extend_from_slice.ensures.items)
      | else-record-number w ↦ joined_more n rs i _ false c.loop-record.out.items _ c.loop-record-test.true
          (ne_eqb _ _ w.if-record-number.false) c.loop-record.invariant (ap (λ v. v.items) w.out-is)
    ]
