use Rattle.std.proofs.Common.{◌≡◌, ℕ, length, take}
use Rattle.llb_tree.specs.Nodes.{flat, left_in}
use Rattle.llb_tree.proofs.ChildCursor.{IsAt}
use Rattle.llb_tree.proofs.DirectoryListing.{tops}
use Rattle.llb_tree.proofs.directory_listing.names_of.Given as goal

abbrev pub invariant-loop-kid : goal.invariant-loop-kid
invariant-loop-kid l = (i : ℕ) × IsAt (left_in l.kids) (left_in l.left) i × (l.names.items ≡ tops (flat (take i (left_in l.kids))))

abbrev pub decreases-loop-kid : goal.decreases-loop-kid
decreases-loop-kid l = length (left_in l.left)
