use Rattle.std.proofs.Common.{◌≡◌, ℕ, ◌+◌, ◌*◌, false, length, map, take}
use denote.Param.Weighed.{most}
use Rattle.std.specs.Arc.{arc_value}
use Rattle.llb_tree.specs.Tree.{height}
use Rattle.llb_tree.specs.Nodes.{pair_of, kids_in, left_in}
use Rattle.llb_tree.specs.ChildPieces.{row_pairs}
use Rattle.llb_tree.specs.Laying.{AreLaid, those, those_pieces}
use Rattle.llb_tree.specs.declared.node.Node.TheDeep.{deep-Child, deep-Piece}
use Rattle.llb_tree.proofs.CoveringChildren.{HasLaid}
use Rattle.llb_tree.proofs.ChildCursor.{IsAt}
use Rattle.llb_tree.proofs.LaidPieces.{HaveLaid}
use Rattle.llb_tree.proofs.overlay.+lay.Given as goal

abbrev pub decreases-lay_node : goal.decreases-lay_node
decreases-lay_node l = 7 * height l.upper.now + 7

abbrev pub decreases-lay_children : goal.decreases-lay_children
decreases-lay_children l = 7 * most deep-Piece (arc_value l.upper.now).items + 6

abbrev pub decreases-lay_all : goal.decreases-lay_all
decreases-lay_all l = 7 * most deep-Piece (arc_value l.upper.now).items + 5

abbrev pub decreases-laid_all : goal.decreases-laid_all
decreases-laid_all l = 7 * most deep-Piece l.upper.now + 4

abbrev pub decreases-laid_rows : goal.decreases-laid_rows
decreases-laid_rows l = 7 * most deep-Child l.upper.now + 2

abbrev pub decreases-laid_over : goal.decreases-laid_over
decreases-laid_over l = 7 * height l.upper.now.node + 8

abbrev pub decreases-lay_each : goal.decreases-lay_each
decreases-lay_each l = 7 * most deep-Piece l.upper.now + 5

abbrev pub decreases-laid_children : goal.decreases-laid_children
decreases-laid_children l = 7 * most deep-Child (left_in l.upper) + 2

abbrev pub decreases-laid_child : goal.decreases-laid_child
decreases-laid_child l = 7 * height l.upper.now.node + 8

abbrev pub invariant-laid_all-loop-i : goal.invariant-laid_all-loop-i
invariant-laid_all-loop-i l = HaveLaid l.settings (kids_in l.kids) l.i l.upper (map row_pairs (those_pieces l.made l.upper))

abbrev pub invariant-laid_rows-loop-i : goal.invariant-laid_rows-loop-i
invariant-laid_rows-loop-i l = HasLaid l.settings (kids_in l.kids) l.i l.upper (map pair_of (those l.made l.upper))

abbrev pub invariant-laid_children-loop-kid : goal.invariant-laid_children-loop-kid
invariant-laid_children-loop-kid l = (i : ℕ) × IsAt (left_in l.upper) (left_in l.left) i
    × AreLaid l.settings (kids_in l.kids) (take i (left_in l.upper)) l.ready.items

abbrev pub decreases-laid_children-loop-kid : goal.decreases-laid_children-loop-kid
decreases-laid_children-loop-kid l = length (left_in l.left)
