use Rattle.std.proofs.Common.{◌≡◌, length, subst, arith}
use Rattle.std.proofs.Math.Facts.{Fits-of_lt}
use Rattle.llb_mount.specs.Route.{IsRoute}
use Rattle.llb_mount.proofs.Routing.{SoFar, found}
use Rattle.llb_mount.proofs.view.route_among.Goals as goal
use Rattle.llb_mount.proofs.view.route_among.Goals.{After-loop-i}

-- what the loop has found after all mounts
is_route : (c : After-loop-i) → IsRoute c.args.mounts.now c.args.path.now (c.loop-i.number, c.loop-i.dropped)
is_route c =
    let ended : c.loop-i.i ≡ length c.args.mounts.now = omega (arith, c.loop-i-test.false, c.loop-i.auto.i-end) in
    found c.args.mounts.now c.args.path.now c.loop-i.number c.loop-i.dropped c.requires
    (subst (λ n. SoFar c.args.mounts.now c.args.path.now n c.loop-i.number c.loop-i.dropped) ended c.loop-i.invariant)

pub overflow_cast-result : goal.overflow_cast-result
overflow_cast-result c = Fits-of_lt (omega (arith, (is_route (goal.at.overflow_cast-result c).After-loop-i).there, c.requires.few))

pub returns : goal.returns
returns c = is_route (goal.at.returns c).After-loop-i
