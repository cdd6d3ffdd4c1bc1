use Rattle.std.proofs.Common.{◌+◌}
use Rattle.llb_mount.specs.View.{dests}
use Rattle.llb_mount.specs.DestOrder.{IsNear}
use Rattle.llb_mount.proofs.dest_order.nearest.Given as goal

abbrev pub invariant-loop-names : goal.invariant-loop-names
invariant-loop-names l = IsNear (dests l.mounts) l.rows (l.from + 1) l.path l.at

abbrev pub decreases-loop-names : goal.decreases-loop-names
decreases-loop-names l = l.at
