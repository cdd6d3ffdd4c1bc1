use Rattle.std.proofs.Common.{◌≡◌, ℕ, ◌+◌, ◌*◌, length, map, take}
use denote.Param.Weighed.{most}
use Rattle.llb_tree.specs.Tree.{height}
use Rattle.llb_tree.specs.Nodes.{pair_of, left_in}
use Rattle.llb_tree.specs.Laying.{dress_pair}
use Rattle.llb_tree.specs.declared.node.Node.TheDeep.{deep-Child}
use Rattle.llb_tree.proofs.ChildCursor.{IsAt}
use Rattle.llb_tree.proofs.overlay.+dress.Given as goal

abbrev pub decreases-dressed : goal.decreases-dressed
decreases-dressed l = 2 * height l.node.now + 1

abbrev pub decreases-all_dressed : goal.decreases-all_dressed
decreases-all_dressed l = 2 * most deep-Child (left_in l.kids)

abbrev pub invariant-all_dressed-loop-kid : goal.invariant-all_dressed-loop-kid
invariant-all_dressed-loop-kid l = (i : ℕ) × IsAt (left_in l.kids) (left_in l.left) i
    × (map pair_of l.list.items ≡ take i (map (dress_pair l.settings) (map pair_of (left_in l.kids))))

abbrev pub decreases-all_dressed-loop-kid : goal.decreases-all_dressed-loop-kid
decreases-all_dressed-loop-kid l = length (left_in l.left)
