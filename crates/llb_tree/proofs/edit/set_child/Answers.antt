use Rattle.std.proofs.Common.{[], Some, None, map, set, sym, subst, refl}
use Rattle.llb_tree.specs.Nodes.{pair_of}
use Rattle.llb_tree.specs.ChildPieces.{Changes}
use Rattle.llb_tree.specs.declared.node.Child.{Child}
use Rattle.llb_tree.proofs.NodeReplacement.{changes_found, changes_removed}
use Rattle.llb_tree.proofs.edit.set_child.Goals as goal

pub returns-in-Some : goal.returns-in-Some
returns-in-Some c n at =
    let items = c.args.list.now.items in
    let kid = c.index_mut.result.now in
    let new : Child = record { name = kid.name; node = c.in-Some.node } in
    subst (λ t. Changes n [] t (map pair_of items) (map pair_of (set items c.args.i new))) (sym c.in-Some.is)
    (changes_found n [] (Some c.in-Some.node) items c.args.i kid new at c.index_mut.ensures.value refl (λ q. refl))

pub returns-in-None : goal.returns-in-None
returns-in-None c n at =
    let items = c.args.list.now.items in
    subst (λ t. Changes n [] t (map pair_of items) (map pair_of c.remove-gone.new.self.items)) (sym c.in-None.is)
    (subst (λ ks. Changes n [] None (map pair_of items) (map pair_of ks)) (sym c.remove-gone.ensures.items)
    (changes_removed n items c.args.i c.requires.sorted at))
