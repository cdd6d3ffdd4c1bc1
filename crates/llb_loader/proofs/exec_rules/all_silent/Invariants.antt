use Rattle.std.proofs.Common.{ℕ, ◌<◌, slice_index_or, ◌≡◌}
use Rattle.llb_loader.specs.MountTypes.{number_of}
use Rattle.llb_ops.specs.declared.exec.Mount.{Mount}
use Rattle.llb_loader.specs.Rules.{none}
use Rattle.llb_loader.proofs.exec_rules.all_silent.Given as goal

abbrev pub invariant-loop-mount : goal.invariant-loop-mount
invariant-loop-mount l = (a : ℕ) (d : Mount) → a < l.mount-index → (slice_index_or l.mounts a d).mount_type ≡ number_of l.mount_type
    → (slice_index_or l.mounts a d).output ≡ none
