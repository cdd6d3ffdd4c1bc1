use Rattle.std.proofs.Common.{◌≡◌, take}
use Rattle.llb_mount.proofs.view.View.copy.Given as goal

abbrev pub invariant-loop-shown : goal.invariant-loop-shown
invariant-loop-shown l = l.mounts.items ≡ take l.shown-index l.shown-items
