use Rattle.std.proofs.Common.{subst, sym, ap, ◌∙◌, None}
use Rattle.std.specs.FinMap as finite
use Rattle.llb_tree.specs.Tree.{Gives}
use Rattle.llb_fileop.specs.Owners.{copied}
use Rattle.llb_fileop.specs.CopyPlacement.{land_at, put_some, laid}
use Rattle.llb_fileop.proofs.EntryRelocation.{target_file}
use Rattle.llb_fileop.proofs.Grafting.{has_file, file_refused, file_lands}
use Rattle.llb_fileop.proofs.merging.land_file.Goals as goal

pub returns-then-is_dir : goal.returns-then-is_dir
returns-then-is_dir c = λ _.
    let given = copied c.args.action.now.mode c.args.action.now.owner in
    let file = has_file (finite.get c.args.second.now c.args.source.now) c.requires.there c.requires.file in
    ap (λ es. land_at given es c.args.goal.now c.args.tree.now)
    (target_file c.args.second.now c.args.source.now c.args.goal.now file.meta file.content c.requires.tree file.is)
    ∙ file_refused given c.args.tree.now c.args.goal.now file.meta file.content c.requires.short c.is_dir.ensures.tree
    (sym c.is_dir.ensures.there ∙ c.if-is_dir.true)

pub returns : goal.returns
returns c =
    let given = copied c.args.action.now.mode c.args.action.now.owner in
    let file = has_file (finite.get c.args.second.now c.args.source.now) c.requires.there c.requires.file in
    let lands = ap (λ es. land_at given es c.args.goal.now c.args.tree.now)
    (target_file c.args.second.now c.args.source.now c.args.goal.now file.meta file.content c.requires.tree file.is)
    ∙ file_lands given c.args.tree.now c.args.goal.now file.meta file.content c.requires.short c.is_dir.ensures.tree
    (sym c.is_dir.ensures.there ∙ c.if-is_dir.false)
    ∙ ap (λ o. put_some (laid given None o) c.args.tree.now c.args.goal.now) (sym file.is) in
    subst (λ r. Gives (λ _. c.copy_from.new.tree) c.copy_from.result r) (sym lands) c.copy_from.ensures
