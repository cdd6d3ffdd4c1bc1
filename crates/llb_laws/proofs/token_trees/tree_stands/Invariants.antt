use Rattle.std.proofs.Common.{◌↔◌, length}
use Rattle.llb_laws.specs.AlikeTrees.{AreAlike, BothLists}
use Rattle.llb_laws.specs.TokenLists.{StandsFor}
use Rattle.llb_laws.proofs.AlikeTreeEdits.{ArePairs}
use Rattle.llb_laws.proofs.token_trees.tree_stands.Given as goal

abbrev pub invariant-loop-path : goal.invariant-loop-path
invariant-loop-path l =
    AreAlike (StandsFor l.contents l.by_value) l.first l.second ↔ BothLists (ArePairs (StandsFor l.contents l.by_value)) l.walk l.other

abbrev pub decreases-loop-path : goal.decreases-loop-path
decreases-loop-path l = length l.walk
