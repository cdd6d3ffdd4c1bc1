use Rattle.std.proofs.Common.{map, ap, sym, subst, ◌∙◌}
use Rattle.std.specs.FinMap as finite
use Rattle.llb_tree.specs.Path.{name_cmp}
use Rattle.llb_tree.specs.Nodes.{rows_in, name_of}
use Rattle.llb_tree.specs.ChildPieces.{row_pairs, IsPieceOf, IsPieced}
use Rattle.llb_tree.specs.declared.node.Piece.{Piece}
use Rattle.llb_tree.proofs.PiecesAroundName.{found_rows}
use Rattle.llb_tree.proofs.PieceEdits.{put_at, put_pieced, same_pairs}
use Rattle.llb_tree.proofs.NodeReplacement.{on_ok, on_both}
use Rattle.llb_tree.proofs.child_insertion.put_piece.Goals as goal

pub put_in-requires : goal.put_in-requires
put_in-requires c =
    let ps = c.make_room.new.pieces.items in
    let at = subst (λ n. IsPieceOf n (map row_pairs ps) c.in_ok-at.at) c.deref.ensures c.in_ok-at.ensures.at in
    (found_rows (name_of c.args.child) ps c.in_ok-at.at c.index_mut-piece.result.now _ c.make_room.ensures.pieced at
    (ap rows_in c.index_mut-piece.ensures.value)).0

pub returns-clause-ok : goal.returns-clause-ok
returns-clause-ok c =
    let n = name_of c.args.child in
    let ps = c.make_room.new.pieces.items in
    let at = subst (λ n. IsPieceOf n (map row_pairs ps) c.in_ok-at.at) c.deref.ensures c.in_ok-at.ensures.at in
    let new : Piece = record { rows = c.put_in.new.rows } in
    on_ok c.put_in.result (λ e. put_at n ps c.in_ok-at.at c.index_mut-piece.result.now new c.make_room.ensures.pieced at c.index_mut-piece.ensures.value
    c.args.child.node e ∙ ap (finite.put name_cmp n c.args.child.node) c.make_room.ensures.same) c.put_in.ensures.ok

pub returns-clause-pieced : goal.returns-clause-pieced
returns-clause-pieced c =
    let n = name_of c.args.child in
    let ps = c.make_room.new.pieces.items in
    let at = subst (λ n. IsPieceOf n (map row_pairs ps) c.in_ok-at.at) c.deref.ensures c.in_ok-at.ensures.at in
    let new : Piece = record { rows = c.put_in.new.rows } in
    on_both c.put_in.result
    (λ e. put_pieced n ps c.in_ok-at.at c.index_mut-piece.result.now new c.make_room.ensures.pieced at c.index_mut-piece.ensures.value c.args.child.node e)
    (λ e. subst IsPieced (sym (same_pairs ps c.in_ok-at.at c.index_mut-piece.result.now new c.index_mut-piece.ensures.value e)) c.make_room.ensures.pieced)
    c.put_in.ensures.ok c.put_in.ensures.err
