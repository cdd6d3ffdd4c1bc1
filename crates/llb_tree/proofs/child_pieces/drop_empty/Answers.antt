use Rattle.std.proofs.Common.{◌==◌, length, map, sym, ap, ◌∙◌}
use Rattle.llb_tree.specs.ChildPieces.{row_pairs}
use Rattle.llb_tree.proofs.PieceEdits.{emptied, not_emptied}
use Rattle.llb_tree.proofs.child_pieces.drop_empty.Goals as goal

pub returns-then-is_empty : goal.returns-then-is_empty
returns-then-is_empty c =
    ap (map row_pairs) c.remove-empty.ensures.items ∙ emptied c.args.pieces.now.items c.args.at c.index.result.now c.requires c.index.ensures
    (ap (λ v. length v == 0) (sym (c.as_slice.ensures.value ∙ ap (λ v. v.items) c.deref.ensures)) ∙ sym c.is_empty.ensures ∙ c.if-is_empty.true)

pub returns-else-is_empty : goal.returns-else-is_empty
returns-else-is_empty c =
    not_emptied c.args.pieces.now.items c.args.at c.index.result.now c.requires c.index.ensures
    (ap (λ v. length v == 0) (sym (c.as_slice.ensures.value ∙ ap (λ v. v.items) c.deref.ensures)) ∙ sym c.is_empty.ensures ∙ c.if-is_empty.false)
