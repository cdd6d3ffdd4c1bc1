use Rattle.std.proofs.Common.{◌≡◌, ◌++◌, map}
use Rattle.llb_tree.specs.Nodes.{kids_in}
use Rattle.llb_tree.specs.ChildPieces.{row_pairs, AllFull}
use Rattle.llb_tree.proofs.child_pieces.in_pieces.Given as goal

abbrev pub invariant-loop-child : goal.invariant-loop-child
invariant-loop-child l = record {
  same : (kids_in l.pieces.items ++ l.last.items) ++ l.child-iterator.rest.items ≡ l.fn.rows.items;
  full : AllFull (map row_pairs l.pieces.items);
}
