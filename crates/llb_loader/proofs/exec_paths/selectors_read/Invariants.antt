use Rattle.std.proofs.Common.{ℕ, ◌<◌, slice_index_or, IsSome}
use Rattle.llb_ops.specs.declared.exec.Mount.{Mount}
use Rattle.llb_loader.specs.Mounts.{read_as}
use Rattle.llb_loader.proofs.exec_paths.selectors_read.Given as goal

abbrev pub invariant-loop-mount : goal.invariant-loop-mount
invariant-loop-mount l = (a : ℕ) (d : Mount) → a < l.mount-index → IsSome (read_as (slice_index_or l.mounts a d).selector)
