use Rattle.std.proofs.Common.{ℕ, ◌<◌, slice_index_or}
use Rattle.llb_ops.specs.declared.exec.Mount.{Mount}
use Rattle.llb_loader.specs.Rules.{ShowsInput}
use Rattle.llb_loader.proofs.exec_rules.all_show.Given as goal

abbrev pub invariant-loop-mount : goal.invariant-loop-mount
invariant-loop-mount l = (a : ℕ) (d : Mount) → a < l.mount-index → ShowsInput l.count (slice_index_or l.mounts a d)
