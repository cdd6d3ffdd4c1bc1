use Rattle.std.proofs.Common.{◌≡◌, Ok, sym, ap, subst, ◌∙◌, refl, T, rules}
use Rattle.std.specs.FinMap as finite
use Rattle.llb_tree.specs.Path.{name_cmp}
use Rattle.llb_tree.specs.Nodes.{map_of, pieces_of, rows_in, place, AreSorted}
use Rattle.llb_tree.specs.ChildPieces.{ArePieced, IsPieced, Changes, joined, pairs_of}
use Rattle.llb_tree.specs.declared.node.Piece.{Piece}
use Rattle.llb_tree.proofs.LaidChildInsertion.{err_holds}
use Rattle.llb_tree.proofs.PiecesAroundName.{found_rows}
use Rattle.llb_tree.proofs.PieceEdits.{changes_at, same_pairs}
use Rattle.llb_tree.specs.declared.node.Kind.TheVariants as kind
use Rattle.llb_tree.proofs.NodeReplacement.{changes_found, node_set, same_pieces, on_ok, on_err}
use Rattle.llb_tree.proofs.+set.Goals.{node::Node::set-in-File+in-Some+in-File-1, node::Node::set-in-File+in-Some+in-Dir-1}
use Rattle.llb_tree.proofs.+set.Goals.{node::Node::set-in-File+in-None-1, node::Node::set-in-Dir}
use Rattle.llb_tree.proofs.+set.Goals as goal

pub node::Node::set-set_below-requires : goal.node::Node::set-set_below-requires
node::Node::set-set_below-requires t c = (search rules, subst (λ n. ArePieced (pieces_of n)) c.in-Dir.is c.self.invariant)

pub edit::set_below-set_piece-requires : goal.edit::set_below-set_piece-requires
edit::set_below-set_piece-requires t c = (
  search rules,
  subst (λ v. ArePieced v.items) (sym c.in-Some.ensures.value) (subst IsPieced (sym c.in_ok-own_list.ensures) c.requires),
)

pub edit::set_rows-set_in-requires : goal.edit::set_rows-set_in-requires
edit::set_rows-set_in-requires t c = (
  search rules,
  subst (λ v. AreSorted v.items) (sym c.in-Some.ensures.value)
      (subst (λ es. T (finite.is_sorted name_cmp es)) (sym c.in_ok-own.ensures) c.requires),
)

pub edit::set_piece-set_rows-requires : goal.edit::set_piece-set_rows-requires
edit::set_piece-set_rows-requires t c = (
  search rules,
  (found_rows c.args.name.now c.make_room.new.pieces.items c.in_ok-at.at c.index_mut-piece.result.now _ c.make_room.ensures.pieced
      c.in_ok-at.ensures.at (ap rows_in c.index_mut-piece.ensures.value)).0,
)

pub edit::set_piece-returns-in_err-set_rows-clause-err : goal.edit::set_piece-returns-in_err-set_rows-clause-err
edit::set_piece-returns-in_err-set_rows-clause-err t c =
    let ps = c.make_room.new.pieces.items in
    let new : Piece = record { rows = c.set_rows.new.rows } in
    err_holds c.from_residual-in_err-set_rows.result (ap joined (same_pairs ps c.in_ok-at.at c.index_mut-piece.result.now new c.index_mut-piece.ensures.value
    c.in_err-set_rows.ensures.err) ∙ c.make_room.ensures.same)

pub edit::set_piece-returns-in_err-set_rows-clause-pieced : goal.edit::set_piece-returns-in_err-set_rows-clause-pieced
edit::set_piece-returns-in_err-set_rows-clause-pieced t c =
    let ps = c.make_room.new.pieces.items in
    let new : Piece = record { rows = c.set_rows.new.rows } in
    subst IsPieced (sym (same_pairs ps c.in_ok-at.at c.index_mut-piece.result.now new c.index_mut-piece.ensures.value c.in_err-set_rows.ensures.err))
    c.make_room.ensures.pieced

pub edit::set_piece-returns-clause-ok : goal.edit::set_piece-returns-clause-ok
edit::set_piece-returns-clause-ok t c =
    let n = c.args.name.now in
    let p = c.args.rest.now in
    let ps = c.make_room.new.pieces.items in
    let new : Piece = record { rows = c.set_rows.new.rows } in
    subst (λ es. Changes n p c.args.branch es (pairs_of c.drop_empty.new.pieces.items)) c.make_room.ensures.same
    (changes_at n ps c.in_ok-at.at c.index_mut-piece.result.now new c.make_room.ensures.pieced c.in_ok-at.ensures.at c.index_mut-piece.ensures.value
    p c.args.branch c.drop_empty.new.pieces.items c.in_ok-set_rows.ensures.ok c.drop_empty.ensures).0

pub edit::set_piece-returns-clause-pieced : goal.edit::set_piece-returns-clause-pieced
edit::set_piece-returns-clause-pieced t c =
    let ps = c.make_room.new.pieces.items in
    let new : Piece = record { rows = c.set_rows.new.rows } in
    (changes_at c.args.name.now ps c.in_ok-at.at c.index_mut-piece.result.now new c.make_room.ensures.pieced c.in_ok-at.ensures.at
    c.index_mut-piece.ensures.value c.args.rest.now c.args.branch c.drop_empty.new.pieces.items c.in_ok-set_rows.ensures.ok c.drop_empty.ensures).1

pub edit::set_in-returns-else-is_empty-clause-ok : goal.edit::set_in-returns-else-is_empty-clause-ok
edit::set_in-returns-else-is_empty-clause-ok t c =
    let items = c.args.list.now.items in
    let kid = c.index_mut-kid.result.now in
    let at : Ok c.in-Ok.i ≡ place c.args.name.now items = c.in-Ok.ensures.place ∙ ap (place c.args.name.now) c.as_slice.ensures.value in
    on_ok c.set.result (changes_found c.args.name.now c.args.rest.now c.args.branch items c.in-Ok.i kid
    (record { name = kid.name; node = c.set.new.self }) at c.index_mut-kid.ensures.value refl) c.set.ensures.ok

pub node::Node::set-returns-after-self-clause-ok : goal.node::Node::set-returns-after-self-clause-ok
node::Node::set-returns-after-self-clause-ok t c = elim c.match-self.branch [
  | node::Node::set-in-File+in-Some+in-File-1 w ↦ rw w.result-is tt
  | node::Node::set-in-File+in-Some+in-Dir-1 w ↦ rw w.result-is tt
  | node::Node::set-in-File+in-None-1 w ↦ rw w.result-is tt
  | node::Node::set-in-Dir w ↦ rw (w.result-is, w.self-inside-is)
      (on_ok w.set_below.result (node_set (kind.Dir w.in-Dir.field-0 w.in-Dir.kids)
      (kind.Dir w.in-Dir.field-0 w.set_below.new.kids) _ _ _ _ (sym (ap map_of w.in-Dir.is) ∙ c.self.view_is) refl
      (subst (λ n. ArePieced (pieces_of n)) w.in-Dir.is c.self.invariant) c.in-len1-up.len_at_least c.name-item.is) w.set_below.ensures.ok)
]

pub node::Node::set-returns-after-self-clause-err : goal.node::Node::set-returns-after-self-clause-err
node::Node::set-returns-after-self-clause-err t c = elim c.match-self.branch [
  | node::Node::set-in-File+in-Some+in-File-1 w ↦ rw (w.result-is, w.self-inside-is) c.self.view_is
  | node::Node::set-in-File+in-Some+in-Dir-1 w ↦ rw (w.result-is, w.self-inside-is) c.self.view_is
  | node::Node::set-in-File+in-None-1 w ↦ rw (w.result-is, w.self-inside-is) c.self.view_is
  | node::Node::set-in-Dir w ↦ rw (w.result-is, w.self-inside-is)
      (on_err w.set_below.result (λ same. same_pieces (kind.Dir w.in-Dir.field-0 w.in-Dir.kids)
      (kind.Dir w.in-Dir.field-0 w.set_below.new.kids) refl same ∙ sym (ap map_of w.in-Dir.is) ∙ c.self.view_is) w.set_below.ensures.err)
]
