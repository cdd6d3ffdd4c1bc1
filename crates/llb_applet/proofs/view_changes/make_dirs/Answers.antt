use Rattle.std.proofs.Common.{◌≡◌, cond, None, Some, Ok, sym, ap, subst, ◌∙◌, OnErr, drop}
use Rattle.llb_tree.specs.Tree.{Gives, empty_tree}
use Rattle.llb_mount.specs.View.{mount_at}
use Rattle.llb_applet.specs.PathsInMounts.{tree_at, with_change, dirs_below, is_dest}
use Rattle.llb_applet.specs.ViewChanges.{Does, PutsAside}
use Rattle.llb_applet.proofs.MountTreeExchange.{does_change}
use Rattle.llb_applet.proofs.view_changes.make_dirs.Goals as goal

pub returns-clause-does : goal.returns-clause-does
returns-clause-does c =
    let view = c.args.view.now in
    let spot = c.args.spot.now in
    let new = c.dirs_below-change.new.tree in
    let selector = (mount_at view spot.mount).selector in
    let names = drop spot.base spot.place in
    let rule = dirs_below (tree_at view spot) selector names in
    let (writable, was, between) = subst (λ o. PutsAside (Ok o) view spot.mount c.put_aside.new.view) c.in-Some.is c.in_ok-put_aside.ensures in
    let copied : c.in_ok-selector.selector ≡ selector = cc (c.in_ok-selector.ensures, c.selector.ensures) in
    let named : c.split_at.result.1.now ≡ names = c.split_at.ensures.back ∙ ap (drop spot.base) c.names.ensures.all in
    let done = does_change view spot.mount c.requires.mount writable empty_tree new rule
    c.dirs_below-change.result
    (subst (Gives (λ _. new) c.dirs_below-change.result) (λ i. dirs_below (was i) (copied i) (named i)) c.dirs_below-change.ensures.gives)
    (subst (λ t. OnErr c.dirs_below-change.result (new ≡ t)) was c.dirs_below-change.ensures.err)
    c.put_aside.new.view c.swap_tree-aside.new.self between c.swap_tree-aside.ensures.new
    c.settled.result c.settled.ensures in
    subst (λ b. Does c.settled.result (cond b (Some view) (cond (is_dest spot) None (with_change view spot.mount rule))) view
    c.swap_tree-aside.new.self) (sym c.if-is_dir.false ∙ c.is_dir.ensures)
    (subst (λ b. Does c.settled.result (cond b None (with_change view spot.mount rule)) view c.swap_tree-aside.new.self)
    (sym c.if-is_dest.false ∙ c.is_dest.ensures) done)
