use Rattle.std.proofs.Common.{◌≡◌, take, vec_capacity}
use Rattle.llb_board.specs.UsersAndOpenInputs.{Visits}
use Rattle.llb_board.proofs.users_and_open_inputs.downstream_marks.visit.Given as goal

abbrev pub invariant-loop-user : goal.invariant-loop-user
invariant-loop-user l =
    Visits (take l.user-index l.users) l.fn.marks l.marks l.fn.reached.items l.reached.items × (vec_capacity l.reached ≡ vec_capacity l.fn.reached)
