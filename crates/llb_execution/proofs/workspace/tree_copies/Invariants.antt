use Rattle.std.proofs.Common.{◌≡◌, take}
use Rattle.llb_execution.proofs.workspace.tree_copies.Given as goal

abbrev pub invariant-loop-tree : goal.invariant-loop-tree
invariant-loop-tree l = l.copies.items ≡ take l.tree-index l.trees
