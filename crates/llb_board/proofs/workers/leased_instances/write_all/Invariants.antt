use Rattle.std.proofs.Common.{◌≡◌, ◌+◌, drop, length}
use Rattle.llb_cache.specs.Caches.{places_of}
use Rattle.llb_model.specs.TwoCacheModels.{put_each}
use Rattle.llb_board.proofs.workers.leased_instances.write_all.Given as goal

abbrev pub invariant-loop-tree : goal.invariant-loop-tree
invariant-loop-tree l = record {
  out : l.caches.out ≡ l.fn.caches.out;
  count : l.need + length l.tree-iterator.rest.items ≡ length (places_of l.fn.caches.out l.lease);
  written :
      put_each l.caches.rows (drop l.need (places_of l.fn.caches.out l.lease)) l.tree-iterator.rest.items
      ≡ put_each l.fn.caches.rows (places_of l.fn.caches.out l.lease) l.fn.trees.items;
}
