use Rattle.std.proofs.Common.{◌≡◌, ◌∙◌, map, ap, sym, subst, cond}
use Rattle.std.specs.Prelude.{Some, None, IfOk}
use Rattle.std.specs.FinMap as finite
use Rattle.llb_tree.specs.Tree.{moved, tree_at}
use Rattle.llb_fileop.specs.declared.refusal.Obstacle.TheVariants.{DirReplaced}
use Rattle.llb_fileop.specs.declared.refusal.Refusal.TheVariants.{At}
use Rattle.llb_fileop.specs.Refusals.{no_landings}
use Rattle.llb_fileop.proofs.EntryRelocation.{target_dir}
use Rattle.llb_fileop.proofs.Grafting.{subtree_is}
use Rattle.llb_fileop.proofs.RefusedCopies.{file_landing}
use Rattle.llb_fileop.proofs.refused_copy.no_landing.Goals as goal

pub returns-then-is_dir : goal.returns-then-is_dir
returns-then-is_dir c =
    let from : c.in_ok-from.from ≡ tree_at c.args.second.now c.args.source.now =
    subtree_is c.args.second.now c.args.source.now c.in_ok-from.from c.in_ok-from.ensures.gives in
    let es = ap (λ t. map (moved 0 c.args.goal.now) (finite.entries t)) from ∙ target_dir c.args.second.now c.args.source.now c.args.goal.now in
    subst (λ l. IfOk c.no_landing_below.result (λ r. r ≡ no_landings c.args.source.now c.args.tree.now l)) es c.no_landing_below.ensures

pub returns-then-is_dir-2 : goal.returns-then-is_dir-2
returns-then-is_dir-2 c =
    let landing = file_landing c.args.second.now c.args.tree.now c.args.source.now c.args.goal.now c.is_dir.ensures.tree c.requires.there
    (sym c.is_dir.ensures.there ∙ c.if-is_dir.false) c.requires.short in
    let dir = sym c.is_dir-2.ensures.there ∙ c.if-is_dir-2.true in
    subst (λ x. IfOk c.at.result (λ r. r ≡ x)) (sym (landing ∙ ap (λ b. cond b (Some (At DirReplaced c.args.goal.now)) None) dir)) c.at.ensures

pub returns : goal.returns
returns c =
    let landing = file_landing c.args.second.now c.args.tree.now c.args.source.now c.args.goal.now c.is_dir.ensures.tree c.requires.there
    (sym c.is_dir.ensures.there ∙ c.if-is_dir.false) c.requires.short in
    let not_dir = sym c.is_dir-2.ensures.there ∙ c.if-is_dir-2.false in
    sym (landing ∙ ap (λ b. cond b (Some (At DirReplaced c.args.goal.now)) None) not_dir)
