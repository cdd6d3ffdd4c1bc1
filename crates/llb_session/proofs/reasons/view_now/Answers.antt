use Rattle.std.proofs.Common.{◌≡◌, ap, sym, ◌∙◌}
use Rattle.std.specs.Prelude.{option_map}
use Rattle.llb_mount.specs.View.{with_tree_of}
use Rattle.llb_session.specs.Reasons.{with_tree_at}
use Rattle.llb_session.proofs.MountsNow.{none_yet, one_more}
use Rattle.llb_session.proofs.reasons.view_now.Goals as goal
use Rattle.llb_session.proofs.reasons.view_now.Goals.{in-Some+in-Ok-copy, in_default-worked_on}

pub loop-i-init : goal.loop-i-init
loop-i-init c = none_yet c.args.board.now.state c.args.w c.args.mounts.now c.in-Ok.view c.in-Ok.ensures

pub loop-i-preserved : goal.loop-i-preserved
loop-i-preserved c =
    let view = c.loop-i.view in
    let i = c.loop-i.i in
    one_more c.args.board.now.state c.args.w c.args.mounts.now view c.match-worked_on.view i c.loop-i.invariant
    (elim c.match-worked_on.branch [
      | in-Some+in-Ok-copy w ↦
          let copied = w.in-Ok-copy.ensures in
          let same : w.in-Ok-copy.copy ≡ w.in-Some.tree.now = cc in
          w.view-is ∙ w.swap_tree.ensures.new ∙ ap (with_tree_of view i) same
          ∙ ap (with_tree_at view i) (sym (ap (option_map (λ t. t.now)) w.in-Some.is) ∙ c.worked_on.ensures)
      | in_default-worked_on w ↦
          w.view-is ∙ ap (with_tree_at view i) (sym (ap (option_map (λ t. t.now)) w.in_default-worked_on.is) ∙ c.worked_on.ensures)
    ])
