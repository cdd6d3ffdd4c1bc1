use Rattle.std.proofs.Common.{◌≡◌, Ok, Err, map, sym, ap, ◌∙◌, refl}
use Rattle.llb_tree.specs.Nodes.{name_of, pair_of, place}
use Rattle.llb_tree.specs.declared.node.Child.{Child}
use Rattle.llb_tree.proofs.NodeLaying.{put_found}
use Rattle.llb_tree.proofs.ChildPlaces.{is_gap}
use Rattle.llb_tree.proofs.child_insertion.put_child.Goals as goal

pub returns-in-Ok-clause-ok : goal.returns-in-Ok-clause-ok
returns-in-Ok-clause-ok c =
    let made = c.args.child in
    let items = c.args.list.now.items in
    let there = c.index_mut.result.now in
    let new : Child = record { name = there.name; node = made.node } in
    let at : Ok c.in-Ok.i ≡ place (name_of made) items = c.in-Ok.ensures.place ∙ (λ i. place (c.deref.ensures i) (c.as_slice.ensures.value i)) in
    put_found made items c.in-Ok.i there new c.requires at c.index_mut.ensures.value refl

pub returns-in_ok-insert-in-Err-clause-ok : goal.returns-in_ok-insert-in-Err-clause-ok
returns-in_ok-insert-in-Err-clause-ok c =
    let made = c.args.child in
    let items = c.args.list.now.items in
    let at : Err c.in-Err.i ≡ place (name_of made) items = c.in-Err.ensures.place ∙ (λ i. place (c.deref.ensures i) (c.as_slice.ensures.value i)) in
    ap (map pair_of) c.in_ok-insert-in-Err.ensures.items ∙ (is_gap (name_of made) items c.in-Err.i (sym at)).written made refl
