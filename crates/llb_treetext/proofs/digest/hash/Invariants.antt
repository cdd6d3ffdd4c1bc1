-- The lines of the entries so far are hashed.
use Rattle.std.proofs.Common.{◌≡◌, ◌++◌, ℕ, List, length}
use Rattle.sha2.specs.Hashers.{Holds256}
use Rattle.llb_treetext.specs.TreeText.{lines_of, tree_text}
use Rattle.llb_treetext.proofs.digest.hash.Given as goal

abbrev pub invariant-loop-path : goal.invariant-loop-path
invariant-loop-path l = (done : List ℕ) × Holds256 l.hasher done × (tree_text l.tree ≡ done ++ lines_of l.walk)

abbrev pub decreases-loop-path : goal.decreases-loop-path
decreases-loop-path l = length l.walk
