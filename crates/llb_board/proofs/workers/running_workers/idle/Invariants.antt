use Rattle.std.specs.Prelude.{vec_capacity}
use Rattle.llb_board.specs.declared.workers.running_workers.Seat.TheVariants.{Idle}
use Rattle.llb_board.proofs.Lists.{Replicated}
use Rattle.llb_board.proofs.workers.running_workers.idle.Given as goal

abbrev pub invariant-loop-i : goal.invariant-loop-i
invariant-loop-i l = Replicated Idle l._i l.seats.items l.count (vec_capacity l.seats)
