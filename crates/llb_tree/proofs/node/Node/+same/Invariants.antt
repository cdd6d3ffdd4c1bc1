-- The children before those that are left are alike, so that what is left decides.
use denote.Param.Weighed.{most}
use Rattle.std.proofs.Common.{◌≤◌, length}
use Rattle.llb_tree.specs.Tree.{height}
use Rattle.llb_tree.specs.Nodes.{left_in}
use Rattle.llb_tree.specs.declared.node.Node.TheDeep.{deep-Child}
use Rattle.llb_tree.proofs.NodeComparison.{SoFar}
use Rattle.llb_tree.proofs.node.Node.+same.Given as goal

abbrev pub decreases-same : goal.decreases-same
decreases-same l = height l.self.now

abbrev pub invariant-loop-kid : goal.invariant-loop-kid
invariant-loop-kid l = record {
  low : most deep-Child (left_in l.left) ≤ most deep-Child (left_in l.initial.left);
  so_far : SoFar (left_in l.initial.left) (left_in l.initial.others) (left_in l.left) (left_in l.others);
}

abbrev pub decreases-loop-kid : goal.decreases-loop-kid
decreases-loop-kid l = length (left_in l.left)
