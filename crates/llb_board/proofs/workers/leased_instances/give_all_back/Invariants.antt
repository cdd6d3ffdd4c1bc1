use Rattle.std.proofs.Common.{◌≡◌}
use Rattle.llb_board.proofs.LeaseInstances.{LeasedFrom}
use Rattle.llb_board.proofs.workers.leased_instances.give_all_back.Given as goal

abbrev pub invariant-loop-seat : goal.invariant-loop-seat
invariant-loop-seat l = record { rows : l.caches.rows ≡ l.fn.caches.rows; leased : LeasedFrom l.caches.out l.seat-index l.seats }
