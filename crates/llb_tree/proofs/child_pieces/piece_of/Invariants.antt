use Rattle.std.proofs.Common.{◌≡◌, ◌-◌, ◌<◌, ◌≤◌, [], true, false, length, map, get_or}
use Rattle.llb_tree.specs.ChildPieces.{begins_after, row_pairs}
use Rattle.llb_tree.proofs.child_pieces.piece_of.Given as goal

abbrev pub invariant-loop-high : goal.invariant-loop-high
invariant-loop-high l = record {
  order : l.low < l.high;
  in_range : l.high ≤ length l.pieces;
  before : 0 < l.low → begins_after l.name (get_or (map row_pairs l.pieces) l.low []) ≡ false;
  after : l.high < length l.pieces → begins_after l.name (get_or (map row_pairs l.pieces) l.high []) ≡ true;
}

abbrev pub decreases-loop-high : goal.decreases-loop-high
decreases-loop-high l = l.high - l.low
