use Rattle.std.proofs.Common.{◌≡◌, take}
use Rattle.llb_loader.specs.Mounts.{dests_of}
use Rattle.llb_loader.proofs.exec_paths.dests_of.Given as goal

abbrev pub invariant-loop-mount : goal.invariant-loop-mount
invariant-loop-mount l = l.dests.items ≡ dests_of (take l.mount-index l.mounts)
