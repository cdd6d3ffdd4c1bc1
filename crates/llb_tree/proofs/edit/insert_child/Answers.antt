use Rattle.std.proofs.Common.{[], Some, map, sym, subst, ◌∙◌}
use Rattle.llb_tree.specs.Nodes.{pair_of}
use Rattle.llb_tree.specs.ChildPieces.{Changes}
use Rattle.llb_tree.specs.declared.node.Child.{Child}
use Rattle.llb_tree.proofs.NodeReplacement.{changes_gap, changes_nothing, same_Ok}
use Rattle.llb_tree.proofs.edit.insert_child.Goals as goal

pub returns-in-None-clause-ok : goal.returns-in-None-clause-ok
returns-in-None-clause-ok c =
    let items = c.args.list.now.items in
    subst (λ t. Changes c.args.name.now [] t (map pair_of items) (map pair_of items)) (sym c.in-None.is)
    (changes_nothing c.args.name.now items c.args.i c.requires.sorted c.requires.gap)

pub returns-in_ok-insert-in-Some-clause-ok : goal.returns-in_ok-insert-in-Some-clause-ok
returns-in_ok-insert-in-Some-clause-ok c =
    let items = c.args.list.now.items in
    let new : Child = record { name = c.in_ok-name-in-Some.name; node = c.in-Some.node } in
    subst (λ t. Changes c.args.name.now [] t (map pair_of items) (map pair_of c.insert.new.self.items)) (sym c.in-Some.is)
    (subst (λ ks. Changes c.args.name.now [] (Some c.in-Some.node) (map pair_of items) (map pair_of ks)) (sym c.in_ok-insert-in-Some.ensures.items)
    (changes_gap c.args.name.now items c.args.i new c.requires.gap (c.in_ok-name-in-Some.ensures.ok ∙ sym (same_Ok _ _ c.in-Ok.ensures))))
