use Rattle.std.proofs.Common.{Some, sym, ap, ◌∙◌}
use Rattle.llb_tree.specs.declared.node.Child.{Child}
use Rattle.llb_tree.proofs.ChildPlaces.{is_found, is_gap}
use Rattle.llb_tree.proofs.PiecesAroundName.{found_rows}
use Rattle.llb_tree.proofs.child_pieces.child_of.Goals as goal

pub place_of-requires : goal.place_of-requires
place_of-requires c = (found_rows c.args.name.now c.args.pieces.now c.piece_of-at.result c.index-pieces-at.result c.as_slice-rows.result.now c.requires
    c.piece_of-at.ensures (c.as_slice-rows.ensures.value ∙ ap (λ v. v.items) c.deref.ensures)).0

pub returns-in-Ok : goal.returns-in-Ok
returns-in-Ok c =
    let found = found_rows c.args.name.now c.args.pieces.now c.piece_of-at.result c.index-pieces-at.result c.as_slice-rows.result.now c.requires
    c.piece_of-at.ensures (c.as_slice-rows.ensures.value ∙ ap (λ v. v.items) c.deref.ensures) in
    ap (λ (k : Child). Some k.node) c.index-rows-i.is
    ∙ sym ((is_found c.args.name.now c.as_slice-rows.result.now c.in-Ok.i (sym c.in-Ok.ensures.place)).found c.index-rows-i.result) ∙ found.1

pub returns-in-Err : goal.returns-in-Err
returns-in-Err c =
    let found = found_rows c.args.name.now c.args.pieces.now c.piece_of-at.result c.index-pieces-at.result c.as_slice-rows.result.now c.requires
    c.piece_of-at.ensures (c.as_slice-rows.ensures.value ∙ ap (λ v. v.items) c.deref.ensures) in
    sym ((is_gap c.args.name.now c.as_slice-rows.result.now c.in-Err.field-0 (sym c.in-Err.ensures.place)).none found.0) ∙ found.1
