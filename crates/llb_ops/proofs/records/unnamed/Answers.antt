use Rattle.std.proofs.Common.{true, false, ap, sym, ◌∙◌}
use Rattle.llb_ops.specs.Table.{shape_of}
use Rattle.llb_ops.proofs.RecordAppending.{unnamed_more}
use Rattle.llb_ops.proofs.records.unnamed.Goals as goal
use Rattle.llb_ops.proofs.records.unnamed.Goals.{then-is_unnamed+in_ok-extend_from_slice, else-is_unnamed}

pub loop-record-preserved : goal.loop-record-preserved
loop-record-preserved c =
    let rs = c.args.records.now in
    let shape = shape_of c.args.message in
    let i = c.loop-record.record-index in
    elim c.if-is_unnamed.branch [
      | then-is_unnamed+in_ok-extend_from_slice w ↦ unnamed_more shape rs i _ true c.loop-record.out.items _ c.loop-record-test.true
          (sym c.is_unnamed.ensures ∙ w.if-is_unnamed.true) c.loop-record.invariant (ap (λ v. v.items) w.out-is ∙ w.in_ok-extend_from_slice.ensures.items)
      | else-is_unnamed w ↦ unnamed_more shape rs i _ false c.loop-record.out.items _ c.loop-record-test.true
          (sym c.is_unnamed.ensures ∙ w.if-is_unnamed.false) c.loop-record.invariant (ap (λ v. v.items) w.out-is)
    ]
