use Rattle.std.proofs.Common.{[], sym, ap, subst, ◌∙◌}
use Rattle.std.specs.FinMap as finite
use Rattle.llb_tree.specs.Walks.{levels_of, AreBehind, AreShort}
use Rattle.llb_tree.proofs.WalkSteps.{whole_left, short_tree}
use Rattle.llb_tree.proofs.tree.Tree.walk.Goals as goal

pub invariant_of-result : goal.invariant_of-result
invariant_of-result c =
    let left = whole_left c.root.result (levels_of c.new.result.items) c.self.inside.root c.root.ensures (ap levels_of c.new.ensures.items) in (
      subst (λ p. AreBehind p (levels_of c.new.result.items)) (sym c.root.ensures) (subst (λ ls. AreBehind [] (levels_of ls)) (sym c.new.ensures.items) tt),
      subst AreShort (sym left) (short_tree c.self.inside.root c.self.inside.depth c.self.invariant),
    )

pub returns : goal.returns
returns c = whole_left c.root.result (levels_of c.new.result.items) c.self.inside.root c.root.ensures (ap levels_of c.new.ensures.items)
    ∙ ap finite.entries c.self.view_is
