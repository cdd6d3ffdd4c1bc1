use Rattle.std.proofs.Common.{◌≡◌, ◌++◌, Ok, Some, sym, ap, subst, ◌∙◌, arith}
use Rattle.std.specs.FinMap as finite
use Rattle.llb_tree.specs.Path.{IsPath, is_within}
use Rattle.llb_tree.specs.Nodes.{IsWhole, set_look}
use Rattle.llb_tree.specs.Tree.{graft, places_fit}
use Rattle.llb_tree.proofs.EditedMaps.{set_inside, set_outside}
use Rattle.llb_tree.proofs.Edits.{grafting}
use Rattle.llb_tree.proofs.tree.Tree.graft.Goals as goal

pub invariant_of-self-2 : goal.invariant_of-self-2
invariant_of-self-2 c =
    let fit : places_fit c.names-names.result.now (finite.keys c.args.other.now) ≡ Ok tt =
    ap (λ p. places_fit p (finite.keys c.args.other.now)) c.names-names.ensures.all ∙ sym c.in_ok-fits.ensures.fit in
    (grafting c.self.inside.root c.set.new.self c.args.other.now c.self.inside.depth c.other.inside.depth _ c.names-names.result.now
    c.self.invariant (subst (λ t. IsWhole t c.other.inside.depth) c.other.view_is c.other.invariant)
    (subst IsPath (sym c.names-names.ensures.all) c.names-names.ensures.path) (sym c.in_ok-walked.ensures.walks) fit
    (λ q. c.in_ok-set.ensures.ok q ∙ ap (λ t. set_look c.names-names.result.now (Some t) (finite.get c.self.inside.root) q)
    (c.in_ok-node.ensures ∙ c.other.view_is))
    (omega (arith, c.max.ensures, c.min-self-inside.ensures, c.self.invariant.short))
    (omega (arith, c.max.ensures, c.min-self-inside.ensures)) (λ k le short. omega (arith, le, short, c.max.ensures, c.min-self-inside.ensures))).0

pub returns-clause-gives : goal.returns-clause-gives
returns-clause-gives c =
    let fit : places_fit c.names-names.result.now (finite.keys c.args.other.now) ≡ Ok tt =
    ap (λ p. places_fit p (finite.keys c.args.other.now)) c.names-names.ensures.all ∙ sym c.in_ok-fits.ensures.fit in
    (λ i. graft (sym c.self.view_is i) (sym c.names-names.ensures.all i) c.args.other.now)
    ∙ (grafting c.self.inside.root c.set.new.self c.args.other.now c.self.inside.depth c.other.inside.depth c.min-self-inside.result
    c.names-names.result.now c.self.invariant (subst (λ t. IsWhole t c.other.inside.depth) c.other.view_is c.other.invariant)
    (subst IsPath (sym c.names-names.ensures.all) c.names-names.ensures.path) (sym c.in_ok-walked.ensures.walks) fit
    (λ q. c.in_ok-set.ensures.ok q ∙ ap (λ t. set_look c.names-names.result.now (Some t) (finite.get c.self.inside.root) q)
    (c.in_ok-node.ensures ∙ c.other.view_is))
    (omega (arith, c.max.ensures, c.min-self-inside.ensures, c.self.invariant.short))
    (omega (arith, c.max.ensures, c.min-self-inside.ensures)) (λ k le short. omega (arith, le, short, c.max.ensures, c.min-self-inside.ensures))).1

pub returns-clause-inside : goal.returns-clause-inside
returns-clause-inside c q =
    ap (λ p. finite.get c.set.new.self (p ++ q)) (sym c.names-names.ensures.all) ∙ c.in_ok-set.ensures.ok (c.names-names.result.now ++ q)
    ∙ set_inside c.names-names.result.now q _ _ ∙ ap (λ t. finite.get t q) (c.in_ok-node.ensures ∙ c.other.view_is)

pub returns-clause-outside : goal.returns-clause-outside
returns-clause-outside c q out =
    c.in_ok-set.ensures.ok q ∙ set_outside c.names-names.result.now q _ _ (ap (λ p. is_within p q) c.names-names.ensures.all ∙ out)
    ∙ ap (λ t. finite.get t q) c.self.view_is
