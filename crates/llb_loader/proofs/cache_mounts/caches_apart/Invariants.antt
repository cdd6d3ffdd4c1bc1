use Rattle.std.specs.BTreeSet.{contains}
use Rattle.llb_loader.specs.Mounts.{keys_of}
use Rattle.llb_loader.specs.KeyOrder.{key_cmp}
use Rattle.llb_loader.proofs.DistinctValues.{ApartBelow, IsSeen}
use Rattle.llb_loader.proofs.cache_mounts.caches_apart.Given as goal

abbrev pub invariant-loop-mount : goal.invariant-loop-mount
invariant-loop-mount l = record {
  seen : IsSeen (keys_of l.inputs l.mounts) l.mount-index (contains key_cmp l.seen);
  apart : ApartBelow (keys_of l.inputs l.mounts) l.mount-index;
}
