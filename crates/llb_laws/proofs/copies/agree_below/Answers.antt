use Rattle.std.proofs.Common.{refl, sym, ◌∙◌}
use Rattle.llb_laws.proofs.TreesBelow.{agree_here, agree_beside, agree_by_trees}
use Rattle.llb_laws.proofs.copies.agree_below.Goals as goal

pub returns-then-not-agree_at : goal.returns-then-not-agree_at
returns-then-not-agree_at c = (
  λ yes. absurd cc,
  λ agree. absurd (let yes = c.agree_at.ensures.1 (agree_here c.args.first.now c.args.second.now c.args.path.now agree) in cc),
)

pub returns-then-not-is_dir : goal.returns-then-not-is_dir
returns-then-not-is_dir c = (
  λ yes. agree_beside c.args.first.now c.args.second.now c.args.path.now c.is_dir.ensures.tree c.is_tree.ensures
      (c.agree_at.ensures.0 c.if-not-agree_at.false) (sym c.is_dir.ensures.there ∙ c.if-not-is_dir.true),
  λ agree. refl,
)

pub returns : goal.returns
returns c =
    let both =
    agree_by_trees c.args.first.now c.args.second.now c.in-Ok.tree c.in-Ok-subtree.other c.args.path.now c.in-Ok.ensures.places
    c.in-Ok-subtree.ensures.places in (
      λ yes. both.0 (c.same.ensures.0 yes),
      λ agree. c.same.ensures.1 (both.1 agree),
    )
