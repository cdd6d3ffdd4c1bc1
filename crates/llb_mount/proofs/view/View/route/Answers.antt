use Rattle.std.proofs.Common.{subst, sym, ◌∙◌}
use Rattle.llb_mount.specs.View.{IsView}
use Rattle.llb_mount.specs.Route.{IsRoute}
use Rattle.llb_mount.proofs.Routing.{route_is}
use Rattle.llb_mount.proofs.view.View.route.Goals as goal
use Rattle.llb_mount.proofs.view.View.route.Goals.{After-route_by, After-route_among}

by_order : (c : After-route_by) → IsRoute c.args.self.now c.args.path.now c.route_by.result
by_order c = subst (λ ms. IsRoute ms c.args.path.now c.route_by.result) (c.deref.ensures.value ∙ c.self.view_is) c.route_by.ensures

among : (c : After-route_among) → IsRoute c.args.self.now c.args.path.now c.route_among.result
among c = subst (λ ms. IsRoute ms c.args.path.now c.route_among.result) (c.deref-in-None.ensures.value ∙ c.self.view_is) c.route_among.ensures

pub returns-in-Some-clause-route : goal.returns-in-Some-clause-route
returns-in-Some-clause-route c =
    let view = subst IsView c.self.view_is c.self.invariant.0 in
    route_is c.args.self.now c.args.path.now view c.route_by.result (by_order (goal.at.returns-in-Some-clause-route c).After-route_by)

pub returns-in-Some-clause-only : goal.returns-in-Some-clause-only
returns-in-Some-clause-only c =
    let view = subst IsView c.self.view_is c.self.invariant.0 in
    λ to is. route_is c.args.self.now c.args.path.now view to is
    ∙ sym (route_is c.args.self.now c.args.path.now view c.route_by.result (by_order (goal.at.returns-in-Some-clause-only c).After-route_by))

pub returns-in-None-clause-route : goal.returns-in-None-clause-route
returns-in-None-clause-route c =
    let view = subst IsView c.self.view_is c.self.invariant.0 in
    route_is c.args.self.now c.args.path.now view c.route_among.result (among (goal.at.returns-in-None-clause-route c).After-route_among)

pub returns-in-None-clause-only : goal.returns-in-None-clause-only
returns-in-None-clause-only c =
    let view = subst IsView c.self.view_is c.self.invariant.0 in
    λ to is. route_is c.args.self.now c.args.path.now view to is
    ∙ sym (route_is c.args.self.now c.args.path.now view c.route_among.result (among (goal.at.returns-in-None-clause-only c).After-route_among))
