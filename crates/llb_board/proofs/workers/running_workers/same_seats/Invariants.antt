use Rattle.std.proofs.Common.{◌≡◌, map, take}
use Rattle.llb_board.specs.WorkerModelValues.{at_of}
use Rattle.llb_board.proofs.workers.running_workers.same_seats.Given as goal

abbrev pub invariant-loop-i : goal.invariant-loop-i
invariant-loop-i l = map at_of (take l.i l.seats) ≡ map at_of (take l.i l.others)
