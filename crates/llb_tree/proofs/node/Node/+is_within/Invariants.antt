-- The children so far are all within one level less.
use Rattle.std.proofs.Common.{ℕ, ◌-◌, length}
use Rattle.llb_tree.specs.Tree.{height}
use Rattle.llb_tree.specs.Nodes.{left_in}
use Rattle.llb_tree.proofs.ChildCursor.{IsAt}
use Rattle.llb_tree.proofs.NodeDepths.{AllWithin}
use Rattle.llb_tree.proofs.node.Node.+is_within.Given as goal

abbrev pub decreases-is_within : goal.decreases-is_within
decreases-is_within l = height l.self.now

abbrev pub invariant-loop-kid : goal.invariant-loop-kid
invariant-loop-kid l = (i : ℕ) × IsAt (left_in l.initial.left) (left_in l.left) i × AllWithin (left_in l.initial.left) i (l.levels - 1)

abbrev pub decreases-loop-kid : goal.decreases-loop-kid
decreases-loop-kid l = length (left_in l.left)
