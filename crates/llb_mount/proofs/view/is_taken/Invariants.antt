use Rattle.std.proofs.Common.{◌≡◌, ℕ, ◌<◌}
use Rattle.llb_mount.specs.View.{mount_at}
use Rattle.llb_mount.proofs.view.is_taken.Given as goal

abbrev pub invariant-loop-shown : goal.invariant-loop-shown
invariant-loop-shown l = (k : ℕ) → k < l.shown-index → (mount_at l.mounts k).dest ≡ l.names → ⊥
