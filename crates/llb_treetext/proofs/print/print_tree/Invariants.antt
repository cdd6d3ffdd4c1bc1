-- The lines of the entries so far are written.
use Rattle.std.proofs.Common.{◌≡◌, ◌++◌, ℕ, List, length}
use Rattle.std.specs.Io.KnownBytes.{Appends}
use Rattle.llb_treetext.specs.TreeText.{lines_of, tree_text}
use Rattle.llb_treetext.proofs.print.print_tree.Given as goal

abbrev pub invariant-loop-path : goal.invariant-loop-path
invariant-loop-path g l =
    (done : List ℕ) × Appends (g.W.Sink.taken l.initial.out) (g.W.Sink.taken l.out) done × (tree_text l.tree ≡ done ++ lines_of l.walk)
    × (g.W.Sink.lender l.out ≡ g.W.Sink.lender l.initial.out)

abbrev pub decreases-loop-path : goal.decreases-loop-path
decreases-loop-path g l = length l.walk
