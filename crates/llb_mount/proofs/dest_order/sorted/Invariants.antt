use Rattle.llb_mount.specs.View.{dests}
use Rattle.llb_mount.specs.DestOrder.{Rises, HasFirst}
use Rattle.llb_mount.proofs.dest_order.sorted.Given as goal

abbrev pub invariant-loop-mount : goal.invariant-loop-mount
invariant-loop-mount l = record { rises : Rises (dests l.mounts) l.rows.items; has : HasFirst l.mount l.rows.items }
