use Rattle.std.proofs.Common.{take}
use Rattle.llb_mount.proofs.DistinctDests.{Differ}
use Rattle.llb_mount.proofs.view.all_differ.Given as goal

abbrev pub invariant-loop-i : goal.invariant-loop-i
invariant-loop-i l = Differ (take l.i l.mounts)
