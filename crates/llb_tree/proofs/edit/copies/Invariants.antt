use Rattle.std.proofs.Common.{◌≡◌, map, take}
use Rattle.llb_tree.specs.Nodes.{pair_of}
use Rattle.llb_tree.proofs.edit.copies.Given as goal

abbrev pub invariant-loop-kid : goal.invariant-loop-kid
invariant-loop-kid l = map pair_of l.copied.items ≡ take l.kid-index (map pair_of l.kids)
