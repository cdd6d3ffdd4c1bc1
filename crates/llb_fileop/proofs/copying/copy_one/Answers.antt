use Rattle.std.proofs.Common.{◌≡◌, subst, sym, ap, ◌∙◌, Ok}
use Rattle.llb_tree.specs.Tree.{Gives, parents, new_dir_meta}
use Rattle.llb_fileop.specs.Making.{make_all}
use Rattle.llb_fileop.specs.Owners.{copied}
use Rattle.llb_fileop.specs.Copying.{at_target, target, copy_to}
use Rattle.llb_fileop.specs.CopyPlacement.{land_at}
use Rattle.llb_fileop.proofs.Grafting.{copy_made, copy_kept}
use Rattle.llb_fileop.proofs.copying.copy_one.Goals as goal
use Rattle.llb_fileop.proofs.copying.copy_one.Goals.{then-action+in_ok-make_parents, else-action}

pub returns : goal.returns
returns c =
    let given = copied c.args.action.now.mode c.args.action.now.owner in
    let es = at_target c.args.second.now c.args.source.now c.in_ok-goal.goal in
    let place = target c.args.action.now (c.args.dest.now.path, c.args.dest.now.inside) c.args.second.now c.args.source.now c.args.tree.now in
    let rule : land_at given es c.in_ok-goal.goal c.if-action.tree ≡ copy_to c.args.action.now c.args.second.now c.args.source.now place
    c.args.tree.now = elim c.if-action.branch [
      | then-action+in_ok-make_parents w ↦
          let made : make_all new_dir_meta (parents c.in_ok-goal.goal) c.args.tree.now ≡ Ok w.make_parents.new.tree
          = ap (λ m. make_all m (parents c.in_ok-goal.goal) c.args.tree.now) (sym w.new_dir.ensures) ∙ w.in_ok-make_parents.ensures in
          ap (land_at given es c.in_ok-goal.goal) w.tree-is
          ∙ sym (copy_made c.args.action.now c.args.second.now c.args.source.now place c.in_ok-goal.goal c.args.tree.now c.in_ok-goal.ensures
          w.make_parents.new.tree w.if-action.true made)
      | else-action w ↦
          ap (land_at given es c.in_ok-goal.goal) w.tree-is
          ∙ sym (copy_kept c.args.action.now c.args.second.now c.args.source.now place c.in_ok-goal.goal c.args.tree.now c.in_ok-goal.ensures w.if-action.false)
    ] in
    subst (λ r. Gives (λ _. c.land.new.tree) c.land.result r) rule c.land.ensures
