use Rattle.std.proofs.Common.{◌≡◌, ◌++◌, sym, map, subst, ◌∙◌, append-nil}
use Rattle.llb_tree.specs.Nodes.{kids_in}
use Rattle.llb_tree.specs.ChildPieces.{row_pairs, AllFull}
use Rattle.llb_tree.proofs.PieceEdits.{moved_on}
use Rattle.llb_tree.proofs.child_pieces.in_pieces.Goals.{then-len-ge-MOST+in_ok-end_piece, else-len-ge-MOST}
use Rattle.llb_tree.proofs.child_pieces.in_pieces.Goals as goal

pub loop-child-preserved : goal.loop-child-preserved
loop-child-preserved c =
    let same : kids_in c.if-len-ge-MOST.pieces.items ++ c.if-len-ge-MOST.last.items ≡ kids_in c.loop-child.pieces.items ++ c.loop-child.last.items =
    elim c.if-len-ge-MOST.branch [
      | then-len-ge-MOST+in_ok-end_piece w ↦
          let done = kids_in c.loop-child.pieces.items in
          (λ i. kids_in (w.pieces-is i).items ++ (w.last-is i).items)
          ∙ (λ i. w.in_ok-end_piece.ensures.same i ++ (w.replace-whole.ensures.after i).items)
          ∙ (λ i. (done ++ (w.replace-whole.ensures.value i).items) ++ w.new.ensures.items i)
          ∙ append-nil (done ++ c.loop-child.last.items)
      | else-len-ge-MOST w ↦ (λ i. kids_in (w.pieces-is i).items ++ (w.last-is i).items)
    ] in
    let full : AllFull (map row_pairs c.if-len-ge-MOST.pieces.items) = elim c.if-len-ge-MOST.branch [
      | then-len-ge-MOST+in_ok-end_piece w ↦
          subst (λ v. AllFull (map row_pairs v.items)) (sym w.pieces-is) (w.in_ok-end_piece.ensures.full c.loop-child.invariant.full)
      | else-len-ge-MOST w ↦ subst (λ v. AllFull (map row_pairs v.items)) (sym w.pieces-is) c.loop-child.invariant.full
    ] in
    record {
      same = moved_on (kids_in c.loop-child.pieces.items) c.loop-child.last.items (kids_in c.if-len-ge-MOST.pieces.items) c.if-len-ge-MOST.last.items
          _ _ _ _ c.in-Some.child c.loop-child.invariant.same c.in-Some.ensures.steps.0 same c.in_ok-push.ensures.items;
      full = full;
    }
