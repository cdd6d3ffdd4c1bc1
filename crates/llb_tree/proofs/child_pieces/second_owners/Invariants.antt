use Rattle.std.proofs.Common.{◌≡◌, map, take}
use Rattle.llb_tree.specs.ChildPieces.{row_pairs}
use Rattle.llb_tree.proofs.child_pieces.second_owners.Given as goal

abbrev pub invariant-loop-piece : goal.invariant-loop-piece
invariant-loop-piece l = map row_pairs l.copied.items ≡ take l.piece-index (map row_pairs l.pieces)
