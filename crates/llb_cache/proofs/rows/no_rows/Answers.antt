use Rattle.std.proofs.Common.{List, ℕ, subst, sym}
use Rattle.llb_cache.specs.Caches.{Row}
use Rattle.llb_cache.specs.RowOrder.{IsOrdered}
use Rattle.llb_cache.proofs.RowInsertion.{none_ordered}
use Rattle.llb_cache.proofs.rows.no_rows.Goals as goal

pub returns-clause-order : goal.returns-clause-order
returns-clause-order c =
    subst (λ (s : List Row × List ℕ). IsOrdered s.0 s.1) (λ i. ((sym c.new.ensures.items) i, (sym c.new-2.ensures.items) i)) none_ordered
