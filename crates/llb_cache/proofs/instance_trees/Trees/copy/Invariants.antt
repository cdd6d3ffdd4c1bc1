use Rattle.std.proofs.Common.{◌≡◌, take}
use Rattle.llb_cache.proofs.instance_trees.Trees.copy.Given as goal

abbrev pub invariant-loop-tree : goal.invariant-loop-tree
invariant-loop-tree l = l.items.items ≡ take l.tree-index l.tree-items
