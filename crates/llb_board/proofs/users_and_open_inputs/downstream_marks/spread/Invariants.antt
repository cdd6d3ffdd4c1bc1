use Rattle.std.proofs.Common.{◌≡◌, map, vec_capacity}
use Rattle.llb_board.proofs.DownstreamMarks.{Spreading}
use Rattle.llb_board.proofs.users_and_open_inputs.downstream_marks.spread.Given as goal

abbrev pub invariant-loop-i : goal.invariant-loop-i
invariant-loop-i l =
    Spreading (map (λ u. u.items) l.users) l.v l.fn.marks l.marks l.reached.items l.i × (vec_capacity l.reached ≡ vec_capacity l.fn.reached)
