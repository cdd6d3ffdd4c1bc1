use Rattle.std.proofs.Common.{◌≡◌, ◌++◌, map}
use Rattle.std.specs.List.{All}
use Rattle.llb_loader.specs.Rules.{kind_mounts}
use Rattle.llb_model.specs.Program.{needs_of}
use Rattle.llb_board.specs.CacheNeeds.{IsFound, need_of}
use Rattle.llb_board.proofs.NeedsOfRemainingMounts.{needs_left}
use Rattle.llb_board.proofs.workers.cache_needs.wants.Given as goal

abbrev pub invariant-loop-i : goal.invariant-loop-i
invariant-loop-i l = record {
  mounts : l.mount-items ≡ kind_mounts l.vertex.op.kind;
  so_far : map need_of l.wanted.items ++ needs_left l.vertex l.i ≡ needs_of l.vertex;
  found : All (IsFound l.caches) l.wanted.items;
}
