use Rattle.std.proofs.Common.{map, ap, ◌∙◌}
use Rattle.llb_board.specs.RunningWorkerSupplies.{ready_made}
use Rattle.llb_board.specs.WorkerModelValues.{at_of}
use Rattle.llb_board.specs.declared.workers.running_workers.Seat.TheVariants as seat
use Rattle.llb_board.proofs.RunningWorkersAndLeases.{crew_open}
use Rattle.llb_model.proofs.Lists.{map_replicate}
use Rattle.llb_board.proofs.workers.Workers.open.Goals as goal

pub invariant_of-result : goal.invariant_of-result
invariant_of-result c =
    crew_open c.in-Ok.seats.items c.args.count c.args.caches.out c.in-Ok.ensures c.requires.count.0 c.requires.count.1 c.requires.free

pub returns-in-Ok-clause-ok : goal.returns-in-Ok-clause-ok
returns-in-Ok-clause-ok c = λ i. record {
  workers = (ap (map at_of) c.in-Ok.ensures ∙ map_replicate at_of c.args.count seat.Idle) i;
  rows = c.args.caches.rows;
  supplies = (ap (map ready_made) c.in-Ok.ensures ∙ map_replicate ready_made c.args.count seat.Idle) i;
}
