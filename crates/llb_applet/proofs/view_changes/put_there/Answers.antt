use Rattle.std.proofs.Common.{◌≡◌, Ok, subst, OnErr}
use Rattle.llb_tree.specs.Tree as tree
use Rattle.llb_tree.specs.Tree.{Gives, empty_tree}
use Rattle.llb_applet.specs.PathsInMounts.{tree_at}
use Rattle.llb_applet.specs.ViewChanges.{PutsAside}
use Rattle.llb_applet.proofs.MountTreeExchange.{does_change}
use Rattle.llb_applet.proofs.view_changes.put_there.Goals as goal

pub returns-in-Some-clause-does : goal.returns-in-Some-clause-does
returns-in-Some-clause-does c =
    let view = c.args.view.now in
    let spot = c.args.spot.now in
    let new = c.put_file-change.new.self in
    let (writable, was, between) = subst (λ o. PutsAside (Ok o) view spot.mount c.put_aside.new.view) c.in-Some.is c.in_ok-put_aside.ensures in
    does_change view spot.mount c.requires writable empty_tree new (tree.put_file (tree_at view spot) spot.place c.args.meta c.args.content)
    c.put_file-change.result
    (subst (λ t. Gives (λ _. new) c.put_file-change.result (tree.put_file t spot.place c.args.meta c.args.content)) was c.put_file-change.ensures.gives)
    (subst (λ t. OnErr c.put_file-change.result (new ≡ t)) was c.put_file-change.ensures.err)
    c.put_aside.new.view c.swap_tree-aside.new.self between c.swap_tree-aside.ensures.new
    c.settled.result c.settled.ensures
