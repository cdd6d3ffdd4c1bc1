use Rattle.std.proofs.Common.{◌≡◌, [], map, subst, sym, ap, ◌∙◌, Ok, None, is_some, true≢false, true, false}
use Rattle.std.specs.FinMap as finite
use Rattle.llb_tree.specs.Tree.{Gives, moved, is_dir}
use Rattle.llb_fileop.specs.Owners.{copied}
use Rattle.llb_fileop.specs.Copying.{land}
use Rattle.llb_fileop.specs.CopyPlacement.{land_at, put_some, laid}
use Rattle.llb_fileop.proofs.ResultEqualities.{none_there}
use Rattle.llb_fileop.proofs.Grafting.{dir_refused, walks_there, dir_made, dir_is_made}
use Rattle.llb_fileop.proofs.merging.land_dir.Goals as goal
use Rattle.llb_fileop.proofs.merging.land_dir.Goals.{then-not-is_there+in_ok-copy_from, else-not-is_there}

pub returns-then-not-is_dir : goal.returns-then-not-is_dir
returns-then-not-is_dir c = λ _.
    let given = copied c.args.action.now.mode c.args.action.now.owner in
    let not_dir : is_dir (finite.get c.if-not-is_there.tree c.args.goal.now) ≡ false = sym c.is_dir.ensures.there ∙ c.if-not-is_dir.true in
    elim c.if-not-is_there.branch [
      | then-not-is_there+in_ok-copy_from w ↦
          let none = none_there (finite.get c.args.tree.now c.args.goal.now) (sym c.is_there.ensures.there ∙ w.if-not-is_there.true) in
          let there : put_some (laid given None (finite.get c.args.source.now [])) c.args.tree.now c.args.goal.now ≡ Ok w.copy_from.new.tree
          = ap (λ p. put_some (laid given None (finite.get c.args.source.now p)) c.args.tree.now c.args.goal.now) (sym w.root.ensures)
          ∙ w.in_ok-copy_from.ensures in
          let made = dir_is_made given c.args.source.now c.args.tree.now c.args.goal.now c.requires.short c.requires.dir
          w.copy_from.new.tree none there in
          absurd (true≢false (sym made ∙ ap (λ t. is_dir (finite.get t c.args.goal.now)) (sym w.tree-is) ∙ not_dir))
      | else-not-is_there w ↦
          let there : is_some (finite.get c.args.tree.now c.args.goal.now) ≡ true = sym c.is_there.ensures.there ∙ w.if-not-is_there.false in
          dir_refused given c.args.source.now c.args.tree.now c.args.goal.now c.requires.short c.requires.dir c.is_there.ensures.tree there
          (ap (λ t. is_dir (finite.get t c.args.goal.now)) (sym w.tree-is) ∙ not_dir)
    ]

pub returns : goal.returns
returns c =
    let given = copied c.args.action.now.mode c.args.action.now.owner in
    let es = map (moved 0 c.args.goal.now) (finite.entries c.args.source.now) in
    let lands : land given es c.if-not-is_there.tree ≡ land_at given es c.args.goal.now c.args.tree.now = elim c.if-not-is_there.branch [
      | then-not-is_there+in_ok-copy_from w ↦
          let none = none_there (finite.get c.args.tree.now c.args.goal.now) (sym c.is_there.ensures.there ∙ w.if-not-is_there.true) in
          let there : put_some (laid given None (finite.get c.args.source.now [])) c.args.tree.now c.args.goal.now ≡ Ok w.copy_from.new.tree
          = ap (λ p. put_some (laid given None (finite.get c.args.source.now p)) c.args.tree.now c.args.goal.now) (sym w.root.ensures)
          ∙ w.in_ok-copy_from.ensures in
          ap (land given es) w.tree-is
          ∙ dir_made given c.args.source.now c.args.tree.now c.args.goal.now c.requires.short c.requires.dir w.copy_from.new.tree none there
      | else-not-is_there w ↦
          let there : is_some (finite.get c.args.tree.now c.args.goal.now) ≡ true = sym c.is_there.ensures.there ∙ w.if-not-is_there.false in
          ap (land given es) w.tree-is
          ∙ sym (walks_there given c.args.source.now c.args.tree.now c.args.goal.now c.requires.short c.requires.dir c.is_there.ensures.tree there)
    ] in
    subst (λ r. Gives (λ _. c.merge_at.new.tree) c.merge_at.result r) lands c.merge_at.ensures
