use Rattle.std.proofs.Common.{◌≡◌, ◌++◌, map}
use Rattle.std.specs.List.{All}
use Rattle.llb_cache.specs.Caches.{taken}
use Rattle.llb_cache.specs.LeasePreparation.{shown, FitsIn}
use Rattle.llb_cache.proofs.caches.Caches.readied.Given as goal

abbrev pub invariant-loop-need : goal.invariant-loop-need
invariant-loop-need l = record {
  takes : map shown l.readies.items ++ taken l.self.out l.need-iterator.rest.items ≡ taken l.self.out l.fn.needs.items;
  room : All FitsIn l.readies.items;
}
