use Rattle.std.proofs.Common.{◌≡◌, map, take}
use Rattle.llb_board.specs.RunningWorkerSupplies.{ready_made}
use Rattle.llb_board.specs.WorkerModelValues.{at_of, leased_by}
use Rattle.llb_board.proofs.workers.copying.copied_seats.Given as goal

abbrev pub invariant-loop-seat : goal.invariant-loop-seat
invariant-loop-seat l = record {
  workers : map at_of l.copies.items ≡ map at_of (take l.seat-index l.seats);
  leases : map leased_by l.copies.items ≡ map leased_by (take l.seat-index l.seats);
  made : map ready_made l.copies.items ≡ map ready_made (take l.seat-index l.seats);
}
