use Rattle.std.proofs.Common.{◌≡◌, ◌+◌, ◌-◌, ◌<◌, true, length, refl, sym, ap, ◌∙◌, subst, arith}
use Rattle.std.proofs.lemmas.List.{length-map, length-set}
use Rattle.llb_tree.specs.Path.{is_within}
use Rattle.llb_mount.specs.declared.dest_order.Row.{Row}
use Rattle.llb_mount.specs.declared.shown_tree.Shown.{Shown}
use Rattle.llb_mount.specs.View.{dests}
use Rattle.llb_mount.specs.DestOrder.{HasFirst, IsNear, mount_of, dest_of}
use Rattle.llb_mount.proofs.PathOrderPrefixes.{not_back}
use Rattle.llb_mount.proofs.DestOrderInsertion.{dest_read, root_first}
use Rattle.llb_mount.proofs.LongestPrefixSearch.{last_near, rises_still, has_still, root_still, climbs_more, order_is}
use Rattle.llb_mount.proofs.dest_order.link.Goals as goal
use Rattle.llb_mount.proofs.dest_order.link.Goals.{In-loop-at}

pub loop-at-init : goal.loop-at-init
loop-at-init c =
    let mounts = c.args.mounts.now in
    let (k, low, root) = c.requires.view.root in
    let all = subst (λ n. HasFirst n c.args.rows.now) (sym (length-map mounts (λ (m : Shown). m.dest))) c.requires.all in
    record {
      rises = c.requires.rises;
      has = c.requires.all;
      root = root_first (dests mounts) c.args.rows.now k low root all c.requires.rises;
      climbs = λ j k low below is. absurd (omega (arith, low, below));
      long = refl;
    }

-- the place at hand
within : (c : In-loop-at) → c.loop-at.at < length c.loop-at.rows
within c = omega (arith, c.loop-at-test.true, c.loop-at.invariant.long)

pub nearest-above-requires-clause-near : goal.nearest-above-requires-clause-near
nearest-above-requires-clause-near c =
    let ds = dests c.args.mounts.now in
    let rows = c.loop-at.rows in
    let at = c.loop-at.at in
    let there = within (goal.at.nearest-above-requires-clause-near c).In-loop-at in
    let rises = c.loop-at.invariant.rises in
    subst (λ p. IsNear ds rows (at - 1 + 1) p (at - 1))
    (dest_read c.args.mounts.now (mount_of rows at) c.index-mounts-mount.result (rises.within at there))
    (last_near ds rows (at - 1) (dest_of ds rows at) rises (omega (arith, there))
    (not_back (dest_of ds rows (at - 1)) (dest_of ds rows at) (rises.rising (at - 1) at (omega (arith, c.loop-at.auto.at)) there)))

pub loop-at-preserved : goal.loop-at-preserved
loop-at-preserved c =
    let ds = dests c.args.mounts.now in
    let rows = c.loop-at.rows in
    let at = c.loop-at.at in
    let row : Row = record { mount = mount_of rows at; above = c.nearest-above.result } in
    let there = within (goal.at.loop-at-preserved c).In-loop-at in
    let is = c.loop-at.invariant in
    let read = sym (dest_read c.args.mounts.now (mount_of rows at) c.index-mounts-mount.result (is.rises.within at there)) in
    let near : IsNear ds rows at (dest_of ds rows at) row.above =
    subst (λ n. IsNear ds rows n (dest_of ds rows at) row.above) (let e : at - 1 + 1 ≡ at = omega (arith, c.loop-at.auto.at) in e)
    (subst (λ p. IsNear ds rows (at - 1 + 1) p row.above) read c.nearest-above.ensures.near) in
    let prefix : is_within (dest_of ds rows row.above) (dest_of ds rows at) ≡ true =
    ap (λ p. is_within (dest_of ds rows row.above) p) (sym read) ∙ c.nearest-above.ensures.prefix in
    record {
      rises = rises_still ds rows at row there refl is.rises;
      has = has_still (length c.args.mounts.now) rows at row there refl is.has;
      root = root_still ds rows at row there refl is.root;
      climbs = climbs_more ds rows at row there refl near prefix is.climbs;
      long = length-set rows at row ∙ is.long;
    }

pub returns : goal.returns
returns c =
    order_is c.args.mounts.now c.loop-at.rows c.loop-at.at c.loop-at.invariant.rises c.loop-at.invariant.has c.loop-at.invariant.root
    (omega (arith, c.loop-at-test.false, c.loop-at.invariant.long)) c.loop-at.invariant.climbs
