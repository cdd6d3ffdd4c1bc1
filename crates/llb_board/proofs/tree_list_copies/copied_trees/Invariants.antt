use Rattle.std.proofs.Common.{◌≡◌, take}
use Rattle.llb_board.proofs.tree_list_copies.copied_trees.Given as goal

abbrev pub invariant-loop-tree : goal.invariant-loop-tree
invariant-loop-tree l = l.copies.items ≡ take l.tree-index l.trees
