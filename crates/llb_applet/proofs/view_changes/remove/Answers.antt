use Rattle.std.proofs.Common.{cond, None, ◌≡◌, Ok, sym, subst, ◌∙◌, OnErr}
use Rattle.llb_tree.specs.Tree as tree
use Rattle.llb_tree.specs.Tree.{Gives, empty_tree}
use Rattle.llb_applet.specs.PathsInMounts.{tree_at, with_change}
use Rattle.llb_applet.specs.ViewChanges.{PutsAside, Does}
use Rattle.llb_applet.proofs.MountTreeExchange.{does_change}
use Rattle.llb_applet.proofs.view_changes.remove.Goals as goal

pub returns-in-Some-clause-does : goal.returns-in-Some-clause-does
returns-in-Some-clause-does c =
    let view = c.args.view.now in
    let spot = c.args.spot.now in
    let new = c.remove-change.new.self in
    let (writable, was, between) = subst (λ o. PutsAside (Ok o) view spot.mount c.put_aside.new.view) c.in-Some.is c.in_ok-put_aside.ensures in
    subst (λ b. Does c.settled.result (cond b None (with_change view spot.mount (tree.remove (tree_at view spot) spot.place))) view
    c.swap_tree-aside.new.self) (sym c.if-is_dest.false ∙ c.is_dest.ensures)
    (does_change view spot.mount c.requires writable empty_tree new (tree.remove (tree_at view spot) spot.place)
    c.remove-change.result
    (subst (λ t. Gives (λ _. new) c.remove-change.result (tree.remove t spot.place)) was c.remove-change.ensures.gives)
    (subst (λ t. OnErr c.remove-change.result (new ≡ t)) was c.remove-change.ensures.err)
    c.put_aside.new.view c.swap_tree-aside.new.self between c.swap_tree-aside.ensures.new
    c.settled.result c.settled.ensures)
