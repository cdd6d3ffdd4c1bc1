use Rattle.std.proofs.Common.{take}
use Rattle.llb_board.specs.UsersAndOpenInputs.{AreRaised}
use Rattle.llb_board.proofs.users_and_open_inputs.raise.Given as goal

abbrev pub invariant-loop-user : goal.invariant-loop-user
invariant-loop-user l = AreRaised (take l.user-index l.users) l.fn.counts l.counts
