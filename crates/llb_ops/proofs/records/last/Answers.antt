use Rattle.std.proofs.Common.{true, false, take, get_or, eq-eqb, ap, sym, ◌∙◌}
use Rattle.std.specs.Prelude.{option_map}
use Rattle.std.proofs.lemmas.Bool.{ne_eqb}
use Rattle.llb_ops.specs.Records.{view, views, all, last_of}
use Rattle.llb_ops.proofs.OneofMembers.{views_more, last_all_push}
use Rattle.llb_ops.proofs.records.last.Goals as goal
use Rattle.llb_ops.proofs.records.last.Goals.{then-record-number, else-record-number}

pub loop-record-preserved : goal.loop-record-preserved
loop-record-preserved c =
    let rs = c.args.records.now in
    let n = c.args.number in
    let i = c.loop-record.record-index in
    elim c.if-record-number.branch [
      | then-record-number w ↦ ap (option_map view) w.last-is
          ∙ sym (last_all_push n (views (take i rs)) (view (get_or rs i _)) true (eq-eqb _ _ w.if-record-number.true))
          ∙ ap (λ xs. last_of (all n xs)) (sym (views_more rs i _ c.loop-record-test.true))
      | else-record-number w ↦ ap (option_map view) w.last-is ∙ c.loop-record.invariant
          ∙ sym (last_all_push n (views (take i rs)) (view (get_or rs i _)) false (ne_eqb _ _ w.if-record-number.false))
          ∙ ap (λ xs. last_of (all n xs)) (sym (views_more rs i _ c.loop-record-test.true))
    ]
