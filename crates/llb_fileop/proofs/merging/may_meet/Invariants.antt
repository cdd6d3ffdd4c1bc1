use Rattle.std.proofs.Common.{◌≡◌, length}
use Rattle.std.specs.FinMap as finite
use Rattle.llb_fileop.specs.CopyPlacement.{all_meet}
use Rattle.llb_fileop.proofs.merging.may_meet.Given as goal

abbrev pub invariant-loop-path : goal.invariant-loop-path
invariant-loop-path l = all_meet l.here l.walk ≡ all_meet l.here (finite.entries l.source)

abbrev pub decreases-loop-path : goal.decreases-loop-path
decreases-loop-path l = length l.walk
