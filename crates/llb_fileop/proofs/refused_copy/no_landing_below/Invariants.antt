use Rattle.std.proofs.Common.{◌≡◌, length, map}
use Rattle.std.specs.FinMap as finite
use Rattle.llb_tree.specs.Tree.{moved}
use Rattle.llb_fileop.specs.Refusals.{no_landings}
use Rattle.llb_fileop.proofs.refused_copy.no_landing_below.Given as goal

abbrev pub invariant-loop-path : goal.invariant-loop-path
invariant-loop-path l = no_landings l.source l.tree (map (moved 0 l.goal) l.walk)
    ≡ no_landings l.source l.tree (map (moved 0 l.goal) (finite.entries l.from))

abbrev pub decreases-loop-path : goal.decreases-loop-path
decreases-loop-path l = length l.walk
