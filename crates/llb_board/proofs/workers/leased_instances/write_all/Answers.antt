use Rattle.std.proofs.Common.{◌≡◌, ◌+◌, ◌<◌, List, drop, length, rules, sym, ap, ◌∙◌, arith}
use Rattle.std.proofs.lemmas.List.{nil_from_length}
use Rattle.llb_cache.specs.Caches as cache
use Rattle.llb_cache.specs.Caches.{CachesValue, Leases, Row, place_at, places_of}
use Rattle.llb_tree.specs.Tree.{TreeMap}
use Rattle.llb_model.specs.TwoCacheModels.{put_each}
use Rattle.llb_board.proofs.LeaseInstances.{put_next, put_none}
use Rattle.llb_board.proofs.workers.leased_instances.write_all.Goals as goal

pub loop-tree-init : goal.loop-tree-init
loop-tree-init c =
    let all = c.into_iter-tree-iterator.ensures.into_iter_gives.0 in
    let count = ap (λ (ts : List TreeMap). length ts) all in
    let same = c.requires.count in
    record {
      out = search rules;
      count = omega (arith, count, same);
      written = ap (put_each c.args.caches.now.rows (places_of c.args.caches.now.out c.args.lease)) all;
    }

pub set_content-requires : goal.set_content-requires
set_content-requires c =
    let left = ap (λ (ts : List TreeMap). length ts) c.in-Some.ensures.steps.0 in
    let same = ap (λ (o : Leases). length (places_of o c.args.lease)) c.loop-tree.invariant.out in
    let count = c.loop-tree.invariant.count in
    omega (arith, left, same, count)

pub overflow_add-need : goal.overflow_add-need
overflow_add-need c =
    let left = ap (λ (ts : List TreeMap). length ts) c.in-Some.ensures.steps.0 in
    let count = c.loop-tree.invariant.count in
    let same = c.requires.count in
    let few = c.requires.few in
    omega (arith, left, count, same, few)

pub loop-tree-preserved : goal.loop-tree-preserved
loop-tree-preserved c =
    let out = c.args.caches.now.out in
    let lease = c.args.lease in
    let need = c.loop-tree.need in
    let rows = c.loop-tree.caches.rows in
    let step = c.in-Some.ensures.steps.0 in
    let rest : List TreeMap = c.next.new.self.rest.items in
    let left = ap (λ (ts : List TreeMap). length ts) step in
    let count = c.loop-tree.invariant.count in
    let within : need < length (places_of out lease) = omega (arith, left, count) in
    let new : c.set_content.new.self.rows ≡ cache.put rows (place_at out lease need) c.in-Some.tree
    = ap (λ (v : CachesValue). v.rows) c.set_content.ensures
    ∙ ap (λ (o : Leases). cache.put rows (place_at o lease need) c.in-Some.tree) c.loop-tree.invariant.out in
    record {
      out = ap (λ (v : CachesValue). v.out) c.set_content.ensures ∙ c.loop-tree.invariant.out;
      count = omega (arith, left, count);
      written = ap (λ (rs : List Row). put_each rs (drop (need + 1) (places_of out lease)) rest) new
          ∙ sym (put_next rows out lease need c.in-Some.tree rest within)
          ∙ ap (put_each rows (drop need (places_of out lease))) (sym step)
          ∙ c.loop-tree.invariant.written;
    }

pub returns-clause-rows : goal.returns-clause-rows
returns-clause-rows c =
    let len : length c.loop-tree.tree-iterator.rest.items ≡ 0 = search rules in
    let none = nil_from_length c.loop-tree.tree-iterator.rest.items len in
    let left = drop c.loop-tree.need (places_of c.args.caches.now.out c.args.lease) in
    sym (put_none c.loop-tree.caches.rows left) ∙ ap (put_each c.loop-tree.caches.rows left) (sym none) ∙ c.loop-tree.invariant.written
