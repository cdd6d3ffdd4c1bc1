use Rattle.std.proofs.Common.{◌≡◌, length}
use Rattle.std.specs.FinMap as finite
use Rattle.llb_fileop.specs.CopyPlacement.{all_below}
use Rattle.llb_fileop.proofs.merging.first_fault.Given as goal

abbrev pub invariant-loop-path : goal.invariant-loop-path
invariant-loop-path l = all_below l.here (length l.goal) l.walk ≡ all_below l.here (length l.goal) (finite.entries l.source)

abbrev pub decreases-loop-path : goal.decreases-loop-path
decreases-loop-path l = length l.walk
