use Rattle.std.proofs.Common.{sym, ap, ◌∙◌, arith}
use Rattle.std.specs.FinMap as finite
use Rattle.llb_tree.specs.Tree.{subtree}
use Rattle.llb_tree.proofs.Edits.{taking}
use Rattle.llb_tree.proofs.tree.Tree.subtree.Goals as goal

pub invariant_of-result : goal.invariant_of-result
invariant_of-result c =
    (taking c.self.inside.root c.in_ok-root.root c.self.inside.depth _ c.names-names.result.now c.self.invariant c.in_ok-node.ensures.there
    (omega (arith, c.saturating_sub.ensures)) (omega (arith, c.saturating_sub.ensures, c.self.invariant.short))
    (λ q. ap (λ t. finite.get t q) c.in_ok-root.ensures ∙ c.in_ok-node.ensures.places q)).0

pub returns-clause-gives : goal.returns-clause-gives
returns-clause-gives c =
    (λ i. subtree (sym c.self.view_is i) (sym c.names-names.ensures.all i))
    ∙ (taking c.self.inside.root c.in_ok-root.root c.self.inside.depth c.saturating_sub.result c.names-names.result.now c.self.invariant
    c.in_ok-node.ensures.there (omega (arith, c.saturating_sub.ensures)) (omega (arith, c.saturating_sub.ensures, c.self.invariant.short))
    (λ q. ap (λ t. finite.get t q) c.in_ok-root.ensures ∙ c.in_ok-node.ensures.places q)).1
