use Rattle.std.proofs.Common.{◌≡◌, ◌++◌, map}
use Rattle.llb_loader.specs.Rules.{kind_mounts}
use Rattle.llb_model.specs.Program.{needs_of}
use Rattle.llb_model.specs.TwoCacheModels.{growth_for}
use Rattle.llb_board.proofs.NeedsOfRemainingMounts.{needs_left}
use Rattle.llb_board.proofs.workers.cache_needs.growths_of.Given as goal

abbrev pub invariant-loop-mount : goal.invariant-loop-mount
invariant-loop-mount l = record {
  mounts : l.mount-items ≡ kind_mounts l.vertex.op.kind;
  so_far : l.growths.items ++ map (growth_for l.caches) (needs_left l.vertex l.mount-index) ≡ map (growth_for l.caches) (needs_of l.vertex);
}
