use Rattle.std.proofs.Common.{◌≡◌, length}
use Rattle.llb_tree.specs.Nodes.{kids_in, left_in}
use Rattle.llb_tree.proofs.children.Children.split_first.Given as goal

abbrev pub invariant-loop-piece : goal.invariant-loop-piece
invariant-loop-piece l = left_in l.self ≡ kids_in l.pieces

abbrev pub decreases-loop-piece : goal.decreases-loop-piece
decreases-loop-piece l = length l.pieces
