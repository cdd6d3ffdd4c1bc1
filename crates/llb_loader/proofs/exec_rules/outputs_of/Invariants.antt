use Rattle.std.proofs.Common.{◌≡◌, take}
use Rattle.llb_loader.specs.Rules.{mount_outputs}
use Rattle.llb_loader.proofs.exec_rules.outputs_of.Given as goal

abbrev pub invariant-loop-mount : goal.invariant-loop-mount
invariant-loop-mount l = l.outputs.items ≡ mount_outputs (take l.mount-index l.mounts)
