use Rattle.std.proofs.Common.{◌≡◌, map, subst, ap, ◌∙◌}
use Rattle.std.specs.FinMap as finite
use Rattle.llb_tree.specs.Tree.{Gives, moved, tree_at}
use Rattle.llb_fileop.specs.Owners.{copied}
use Rattle.llb_fileop.specs.CopyPlacement.{land_at}
use Rattle.llb_fileop.proofs.EntryRelocation.{target_dir}
use Rattle.llb_fileop.proofs.Grafting.{subtree_is}
use Rattle.llb_fileop.proofs.copying.land.Goals as goal

pub returns-then-is_dir : goal.returns-then-is_dir
returns-then-is_dir c =
    let given = copied c.args.action.now.mode c.args.action.now.owner in
    let from : c.in_ok-from.from ≡ tree_at c.args.second.now c.args.source.now =
    subtree_is c.args.second.now c.args.source.now c.in_ok-from.from c.in_ok-from.ensures.gives in
    let es = ap (λ t. map (moved 0 c.args.goal.now) (finite.entries t)) from ∙ target_dir c.args.second.now c.args.source.now c.args.goal.now in
    subst (λ l. Gives (λ _. c.land_dir.new.tree) c.land_dir.result (land_at given l c.args.goal.now c.args.tree.now)) es c.land_dir.ensures
