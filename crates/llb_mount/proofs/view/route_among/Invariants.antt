use Rattle.llb_mount.proofs.Routing.{SoFar}
use Rattle.llb_mount.proofs.view.route_among.Given as goal

abbrev pub invariant-loop-i : goal.invariant-loop-i
invariant-loop-i l = SoFar l.mounts l.path l.i l.number l.dropped
