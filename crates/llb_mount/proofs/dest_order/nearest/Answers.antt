use Rattle.std.proofs.Common.{◌≡◌, ◌+◌, ◌<◌, false, length, sym, ◌∙◌, arith}
use Rattle.llb_tree.specs.Path.{is_within}
use Rattle.llb_mount.specs.View.{dests}
use Rattle.llb_mount.specs.DestOrder.{dest_of, mount_of}
use Rattle.llb_mount.proofs.DestOrderInsertion.{dest_read}
use Rattle.llb_mount.proofs.LongestPrefixSearch.{goes_up, still_near}
use Rattle.llb_mount.proofs.dest_order.nearest.Goals as goal

pub loop-names-preserved : goal.loop-names-preserved
loop-names-preserved c =
    let ds = dests c.args.mounts.now in
    let rows = c.args.rows.now in
    let at = c.loop-names.at in
    let there : at < length rows = omega (arith, c.loop-names.invariant.there, c.requires.there) in
    let read : dest_of ds rows at ≡ c.names.result.now =
    dest_read c.args.mounts.now (mount_of rows at) c.index-mounts-rows.result (c.requires.rises.within at there)
    ∙ sym c.names.ensures.all in
    let out : is_within (dest_of ds rows at) c.args.path.now ≡ false =
    (λ i. is_within (read i) (sym c.names-names.ensures.all i)) ∙ sym c.starts_with.ensures.value ∙ c.loop-names-test.true in
    still_near ds rows (c.args.from + 1) at c.args.path.now c.requires.climbs
    (goes_up ds rows (c.args.from + 1) at c.args.path.now c.requires.root c.requires.climbs c.loop-names.invariant out) c.loop-names.invariant out
