use Rattle.std.proofs.Common.{true, false, take, get_or, ap, sym, ◌∙◌}
use Rattle.llb_ops.specs.Records.{view, views, chosen}
use Rattle.llb_ops.proofs.OneofMembers.{views_more, chosen_push}
use Rattle.llb_ops.proofs.records.chosen.Goals as goal
use Rattle.llb_ops.proofs.records.chosen.Goals.{then-contains, else-contains}

pub loop-part-preserved : goal.loop-part-preserved
loop-part-preserved c =
    let rs = c.args.records.now in
    let i = c.loop-part.part-index in
    let ms = c.args.members.now in
    elim c.if-contains.branch [
      | then-contains w ↦ w.last-is
          ∙ sym (chosen_push ms (views (take i rs)) (view (get_or rs i _)) true (sym c.contains.ensures.value ∙ w.if-contains.true))
          ∙ ap (chosen ms) (sym (views_more rs i _ c.loop-part-test.true))
      | else-contains w ↦ w.last-is ∙ c.loop-part.invariant
          ∙ sym (chosen_push ms (views (take i rs)) (view (get_or rs i _)) false (sym c.contains.ensures.value ∙ w.if-contains.false))
          ∙ ap (chosen ms) (sym (views_more rs i _ c.loop-part-test.true))
    ]
