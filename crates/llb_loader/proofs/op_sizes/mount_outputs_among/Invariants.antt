use Rattle.std.proofs.Common.{◌≡◌, ◌≤◌, take}
use Rattle.llb_loader.specs.Rules.{count_outputs, mount_outputs}
use Rattle.llb_loader.proofs.op_sizes.mount_outputs_among.Given as goal

abbrev pub invariant-loop-mount : goal.invariant-loop-mount
invariant-loop-mount l = record {
  counted : l.count ≡ count_outputs (take l.mount-index (mount_outputs l.mounts));
  small : l.count ≤ l.mount-index;
}
