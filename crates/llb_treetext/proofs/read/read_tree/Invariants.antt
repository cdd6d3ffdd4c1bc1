-- The lines so far are a tree's, which is read where memory was not refused, its last path is known, and less and less is left.
use Rattle.std.proofs.Common.{◌≡◌, length}
use Rattle.std.specs.FinMap as finite
use Rattle.llb_tree.specs.Tree.{TreeMap}
use Rattle.llb_treetext.specs.TreeAfterNextLine.{IsFront, IsLast}
use Rattle.llb_treetext.specs.GrowingTree.{IsGrownIfAny}
use Rattle.llb_treetext.proofs.read.read_tree.Given as goal

abbrev pub invariant-loop-last : goal.invariant-loop-last
invariant-loop-last l = (t : TreeMap) × IsFront l.bytes t l.rest × IsLast t l.last × (l.number ≡ finite.len t) × IsGrownIfAny l.tree t

abbrev pub decreases-loop-last : goal.decreases-loop-last
decreases-loop-last l = length l.rest
