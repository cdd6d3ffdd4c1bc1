use Rattle.std.proofs.Common.{List, Bool, subst, sym}
use Rattle.llb_cache.specs.Caches.{CachesValue}
use Rattle.llb_cache.specs.InstanceMarks.{IsMarked}
use Rattle.llb_cache.proofs.ExactMarks.{nothing_marked}
use Rattle.llb_cache.proofs.caches.Caches.new.Goals as goal

pub invariant_of-result : goal.invariant_of-result
invariant_of-result c = (
  subst (λ (s : CachesValue × List (List Bool)). IsMarked s.0 s.1)
      (λ i. (record { rows = (sym c.no_rows.ensures.empty) i; out = (sym c.new-2.ensures.items) i }, (sym c.new.ensures.items) i)) nothing_marked,
  c.no_rows.ensures.order,
)
