use Rattle.std.proofs.Common.{◌≡◌}
use Rattle.llb_loader.specs.Rules.{kind_mounts}
use Rattle.llb_model.specs.Program.{needs_of}
use Rattle.llb_board.specs.CacheNeeds.{first_held_key}
use Rattle.llb_board.proofs.NeedsOfRemainingMounts.{needs_left}
use Rattle.llb_board.proofs.workers.cache_needs.last_locked.Given as goal

abbrev pub invariant-loop-mount : goal.invariant-loop-mount
invariant-loop-mount l = record {
  mounts : l.mount-items ≡ kind_mounts l.vertex.op.kind;
  shut : first_held_key l.caches.out (needs_left l.vertex l.mount-index) ≡ first_held_key l.caches.out (needs_of l.vertex);
}
