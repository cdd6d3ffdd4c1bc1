use Rattle.std.proofs.Common.{◌≡◌, ◌+◌, ◌-◌, ◌<◌, ℕ, length, ap, sym, ◌∙◌, subst, arith}
use Rattle.llb_mount.specs.declared.shown_tree.Shown.{Shown}
use Rattle.llb_mount.specs.View.{dests, mount_at}
use Rattle.llb_mount.specs.Route.{IsRoute}
use Rattle.llb_mount.specs.DestOrder.{IsNear, mount_of}
use Rattle.llb_mount.proofs.DestOrderInsertion.{mount_read}
use Rattle.llb_mount.proofs.LongestPrefixSearch.{last_near, has_place, routed}
use Rattle.llb_mount.proofs.dest_order.route_by.Goals as goal
use Rattle.llb_mount.proofs.dest_order.route_by.Goals.{After-place_of-place}

some : (c : After-place_of-place) → 0 < c.place_of-place.result
some c = has_place (dests c.args.mounts.now) c.args.rows.now c.args.path.now c.place_of-place.result c.requires.order.root c.place_of-place.ensures

pub overflow_sub-place : goal.overflow_sub-place
overflow_sub-place c = omega (arith, some (goal.at.overflow_sub-place c).After-place_of-place)

pub nearest-at-requires-clause-near : goal.nearest-at-requires-clause-near
nearest-at-requires-clause-near c =
    let low = some (goal.at.nearest-at-requires-clause-near c).After-place_of-place in
    let at = c.place_of-place.ensures in
    last_near (dests c.args.mounts.now) c.args.rows.now (c.place_of-place.result - 1) c.args.path.now c.requires.order.rises
    (omega (arith, low, at.within)) (at.before (c.place_of-place.result - 1) (omega (arith, low)))

pub returns : goal.returns
returns c =
    let mounts = c.args.mounts.now in
    let rows = c.args.rows.now in
    let at = c.nearest-at.result in
    let place : ℕ = c.place_of-place.result in
    let low = some (goal.at.returns c).After-place_of-place in
    let whole : place - 1 + 1 ≡ place = omega (arith, low) in
    let near : IsNear (dests mounts) rows place c.args.path.now at =
    subst (λ n. IsNear (dests mounts) rows n c.args.path.now at) whole c.nearest-at.ensures.near in
    let there : at < length rows = omega (arith, near.there, c.place_of-place.ensures.within) in
    let read : (mount_at mounts (mount_of rows at)).dest ≡ c.names.result.now =
    ap (λ (m : Shown). m.dest) (mount_read mounts (mount_of rows at) c.index-mounts-mount.result (c.requires.order.rises.within at there))
    ∙ sym c.names.ensures.all in
    subst (λ n. IsRoute mounts c.args.path.now (mount_of rows at, n)) (ap (λ l. length l) read)
    (routed mounts rows c.args.path.now place at c.requires.order c.place_of-place.ensures near c.nearest-at.ensures.prefix)
