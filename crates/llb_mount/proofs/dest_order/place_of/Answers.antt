use Rattle.std.proofs.Common.{◌≡◌, ◌<◌, ◌+◌, ◌-◌, ◌/◌, ℕ, length, sym, ap, ◌∙◌, arith}
use Rattle.std.specs.Ordering.{is_lt}
use Rattle.llb_mount.specs.View.{dests}
use Rattle.llb_mount.specs.DestOrder.{is_before, dest_of, mount_of}
use Rattle.llb_mount.proofs.DestOrderInsertion.{dest_read, all_before, all_behind}
use Rattle.llb_mount.proofs.dest_order.place_of.Goals as goal
use Rattle.llb_mount.proofs.dest_order.place_of.Goals.{After-is_lt}

-- the place that is looked at
abbrev middle : After-is_lt → ℕ
middle c = c.loop-low.low + (c.loop-low.high - c.loop-low.low) / 2

within : (c : After-is_lt) → middle c < length c.args.rows.now
within c = omega (arith, c.loop-low-test.true, c.loop-low.invariant.high)

looked : (c : After-is_lt) → is_before c.args.path.now (dest_of (dests c.args.mounts.now) c.args.rows.now (middle c)) ≡ c.is_lt.result
looked c =
    ap (is_before c.args.path.now) (dest_read c.args.mounts.now (mount_of c.args.rows.now (middle c)) c.index-mounts-rows.result
    (c.requires.within (middle c) (within c))) ∙ ap is_lt (sym c.cmp.ensures) ∙ sym c.is_lt.ensures

pub loop-low-preserved-then-is_lt : goal.loop-low-preserved-then-is_lt
loop-low-preserved-then-is_lt c =
    let s = (goal.at.loop-low-preserved-then-is_lt c).After-is_lt in
    record {
      low = omega (arith, c.loop-low.invariant.low);
      high = omega (arith, c.loop-low.invariant.low, c.loop-low.invariant.high);
      before = c.loop-low.invariant.before;
      behind = all_behind (dests c.args.mounts.now) c.args.rows.now c.args.path.now (middle s) c.requires (looked s ∙ c.if-is_lt.true);
    }

pub loop-low-preserved : goal.loop-low-preserved
loop-low-preserved c =
    let s = (goal.at.loop-low-preserved c).After-is_lt in
    record {
      low = omega (arith, c.loop-low-test.true);
      high = c.loop-low.invariant.high;
      before = all_before (dests c.args.mounts.now) c.args.rows.now c.args.path.now (middle s) c.requires (within s) (looked s ∙ c.if-is_lt.false);
      behind = c.loop-low.invariant.behind;
    }
