-- The rest of the tests is one shorter with each level.
use Rattle.std.proofs.Common.{ℕ, ◌+◌, ◌*◌, length, ◌∷◌}
use Rattle.llb_tree.specs.Nodes.{left_in}
use Rattle.llb_tree.proofs.ChildCursor.{IsAt}
use Rattle.llb_tree.proofs.FilteredNodes.{KeptSoFar}
use Rattle.llb_tree.proofs.selected_removal.+thin.Given as goal

abbrev pub decreases-thinned : goal.decreases-thinned
decreases-thinned g l = 3 * length l.rest.now + 2

abbrev pub decreases-thinned_children : goal.decreases-thinned_children
decreases-thinned_children g l = 3 * length l.rest.now + 1

abbrev pub decreases-keep : goal.decreases-keep
decreases-keep g l = 3 * length l.rest.now

abbrev pub invariant-thinned_children-loop-kid : goal.invariant-thinned_children-loop-kid
invariant-thinned_children-loop-kid g l = (i : ℕ) × IsAt (left_in l.kids) (left_in l.left) i
    × KeptSoFar g.T.NameTest.passes (l.test ∷ l.rest) (left_in l.kids) i l.changed l.kept.items

abbrev pub decreases-thinned_children-loop-kid : goal.decreases-thinned_children-loop-kid
decreases-thinned_children-loop-kid g l = length (left_in l.left)
