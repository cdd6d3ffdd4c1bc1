use Rattle.std.proofs.Common.{◌≡◌, length}
use Rattle.llb_mount.specs.View.{dests}
use Rattle.llb_mount.specs.DestOrder.{Rises, HasFirst, AtRoot, Climbs}
use Rattle.llb_mount.proofs.dest_order.link.Given as goal

abbrev pub invariant-loop-at : goal.invariant-loop-at
invariant-loop-at l = record {
  rises : Rises (dests l.mounts) l.rows;
  has : HasFirst (length l.mounts) l.rows;
  root : AtRoot (dests l.mounts) l.rows;
  climbs : Climbs (dests l.mounts) l.rows l.at;
  long : length l.rows ≡ l.at-end;
}
