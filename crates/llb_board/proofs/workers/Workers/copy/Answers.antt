use Rattle.std.proofs.Common.{map, ap, ◌∙◌}
use Rattle.llb_cache.specs.Caches.{CachesValue}
use Rattle.llb_board.specs.RunningWorkerSupplies.{ready_made}
use Rattle.llb_board.specs.WorkerModelValues.{at_of, leased_by}
use Rattle.llb_board.proofs.RunningWorkersAndLeases.{crew_alike}
use Rattle.llb_board.proofs.workers.Workers.copy.Goals as goal

pub invariant_of-result : goal.invariant_of-result
invariant_of-result c =
    let s = c.self.inside in
    let seats = c.deref.ensures.value in
    crew_alike s.seats.items c.in_ok-copied_seats.field-0.items s.caches.out c.in_ok-copy.field-0.out
    (c.in_ok-copied_seats.ensures.workers ∙ ap (map at_of) seats) (c.in_ok-copied_seats.ensures.leases ∙ ap (map leased_by) seats)
    (ap (λ (v : CachesValue). v.out) c.in_ok-copy.ensures) c.self.invariant

pub returns : goal.returns
returns c =
    let seats = c.deref.ensures.value in
    (λ i. record {
      workers = (c.in_ok-copied_seats.ensures.workers ∙ ap (map at_of) seats) i;
      rows = (c.in_ok-copy.ensures i).rows;
      supplies = (c.in_ok-copied_seats.ensures.made ∙ ap (map ready_made) seats) i;
    })
    ∙ c.self.view_is
