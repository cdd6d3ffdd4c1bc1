use Rattle.std.proofs.Common.{◌≡◌, false, take}
use Rattle.llb_loader.specs.MountTypes.{number_of}
use Rattle.std.specs.List.{list_any}
use Rattle.llb_loader.specs.Mounts.{has_type}
use Rattle.llb_loader.proofs.features.any_of_type.Given as goal

abbrev pub invariant-loop-mount : goal.invariant-loop-mount
invariant-loop-mount l = list_any (has_type (number_of l.mount_type)) (take l.mount-index l.mounts) ≡ false
