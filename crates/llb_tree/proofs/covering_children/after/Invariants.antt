use Rattle.std.proofs.Common.{length}
use Rattle.llb_tree.specs.Nodes.{left_in}
use Rattle.llb_tree.specs.Laying.{Covers}
use Rattle.llb_tree.proofs.covering_children.after.Given as goal

abbrev pub invariant-loop-kid : goal.invariant-loop-kid
invariant-loop-kid l = Covers (left_in l.kids) (left_in l.rest)

abbrev pub decreases-loop-kid : goal.decreases-loop-kid
decreases-loop-kid l = length (left_in l.rest)
