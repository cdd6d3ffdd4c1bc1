use Rattle.std.proofs.Common.{◌≡◌, map, take}
use Rattle.llb_board.specs.CacheNeeds.{first_tree}
use Rattle.llb_board.proofs.workers.cache_needs.first_trees.Given as goal

abbrev pub invariant-loop-want : goal.invariant-loop-want
invariant-loop-want l = l.trees.items ≡ map (first_tree l.inputs) (take l.want-index l.wanted)
