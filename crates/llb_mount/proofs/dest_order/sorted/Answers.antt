use Rattle.std.proofs.Common.{◌≡◌, ◌+◌, ◌<◌, List, length, get_or, insert, refl, sym, subst, arith}
use Rattle.std.proofs.lemmas.List.{length-map}
use Rattle.std.specs.Prelude.{[]}
use Rattle.llb_mount.specs.declared.dest_order.Row.{Row}
use Rattle.llb_mount.specs.declared.shown_tree.Shown.{Shown}
use Rattle.llb_mount.specs.View.{dests}
use Rattle.llb_mount.specs.DestOrder.{IsPlace, Rises, HasFirst}
use Rattle.llb_mount.proofs.DestOrderInsertion.{dest_read, has_more, rises_more}
use Rattle.llb_mount.proofs.dest_order.sorted.Goals as goal

pub loop-mount-preserved : goal.loop-mount-preserved
loop-mount-preserved c =
    let mounts = c.args.mounts.now in
    let ds = dests mounts in
    let n = c.loop-mount.mount in
    let rows = c.loop-mount.rows.items in
    let row : Row = record { mount = n; above = 0 } in
    let place = c.place_of-place.result in
    let low : n < length ds = omega (arith, c.loop-mount-test.true, c.loop-mount.auto.mount-end, length-map mounts (λ (m : Shown). m.dest)) in
    let at : IsPlace ds rows (get_or ds n []) place =
    subst (λ p. IsPlace ds rows p place) (sym (dest_read mounts n c.index-mounts-mount.result low))
    (subst (λ rs. IsPlace ds rs (get_or mounts n c.index-mounts-mount.result).dest place) c.deref.ensures.value c.place_of-place.ensures) in
    let items : insert rows place row ≡ c.insert.new.self.items = sym {A = List Row} c.in_ok-insert.ensures.items in
    record {
      rises = subst (λ (rs : List Row). Rises ds rs) items
          (rises_more ds rows n place row refl low c.requires.differ c.loop-mount.invariant.has c.loop-mount.invariant.rises at);
      has = subst (λ (rs : List Row). HasFirst (n + 1) rs) items (has_more rows n place row refl at.within c.loop-mount.invariant.has);
    }
