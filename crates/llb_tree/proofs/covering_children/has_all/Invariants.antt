use Rattle.std.proofs.Common.{ℕ, length, take}
use Rattle.llb_tree.specs.Nodes.{left_in}
use Rattle.llb_tree.specs.Laying.{Covers}
use Rattle.llb_tree.proofs.ChildCursor.{IsAt}
use Rattle.llb_tree.proofs.covering_children.has_all.Given as goal

abbrev pub invariant-loop-kid : goal.invariant-loop-kid
invariant-loop-kid l = (i : ℕ) × IsAt (left_in l.lower) (left_in l.left) i × Covers (left_in l.upper) (take i (left_in l.lower))
    × Covers (left_in l.upper) (left_in l.rest)

abbrev pub decreases-loop-kid : goal.decreases-loop-kid
decreases-loop-kid l = length (left_in l.left)
