use Rattle.std.proofs.Common.{◌≡◌, false, take}
use Rattle.std.specs.List.{list_any}
use Rattle.llb_loader.specs.Mounts.{has_type, cache}
use Rattle.llb_loader.specs.Rules.{kind_mounts}
use Rattle.llb_execution.proofs.exec_mounts.mounts_cache.Given as goal

abbrev pub invariant-loop-mount : goal.invariant-loop-mount
invariant-loop-mount l = record {
  mounts : l.mount-items ≡ kind_mounts l.vertex.op.kind;
  none : list_any (has_type cache) (take l.mount-index (kind_mounts l.vertex.op.kind)) ≡ false;
}
