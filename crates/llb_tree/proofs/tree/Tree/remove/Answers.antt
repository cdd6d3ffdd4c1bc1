use Rattle.std.proofs.Common.{◌≢◌, [], sym, ◌∙◌, true≢false}
use Rattle.llb_tree.specs.Tree.{remove}
use Rattle.llb_tree.proofs.Edits.{removal}
use Rattle.llb_tree.proofs.tree.Tree.remove.Goals as goal

pub invariant_of-self-2 : goal.invariant_of-self-2
invariant_of-self-2 c =
    let named : c.names-names.result.now ≢ [] = λ e. true≢false (sym (c.is_root.ensures.1 (sym c.names-names.ensures.all ∙ e)) ∙ c.if-is_root.false) in
    (removal c.self.inside.root c.set.new.self c.self.inside.depth c.names-names.result.now c.self.invariant named
    (sym c.in_ok-is_there.ensures.there) c.in_ok-set.ensures.ok).0

pub returns-clause-gives : goal.returns-clause-gives
returns-clause-gives c =
    let named : c.names-names.result.now ≢ [] = λ e. true≢false (sym (c.is_root.ensures.1 (sym c.names-names.ensures.all ∙ e)) ∙ c.if-is_root.false) in
    (λ i. remove (sym c.self.view_is i) (sym c.names-names.ensures.all i))
    ∙ (removal c.self.inside.root c.set.new.self c.self.inside.depth c.names-names.result.now c.self.invariant named
    (sym c.in_ok-is_there.ensures.there) c.in_ok-set.ensures.ok).1
