use Rattle.std.proofs.Common.{ℕ, ◌<◌, slice_index_or}
use Rattle.llb_ops.specs.declared.exec.Mount.{Mount}
use Rattle.llb_loader.specs.Rules.{IsShared}
use Rattle.llb_loader.proofs.exec_rules.all_shared.Given as goal

abbrev pub invariant-loop-mount : goal.invariant-loop-mount
invariant-loop-mount l = (a : ℕ) (d : Mount) → a < l.mount-index → IsShared (slice_index_or l.mounts a d)
