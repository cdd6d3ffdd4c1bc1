use Rattle.std.proofs.Common.{map, take}
use Rattle.llb_board.specs.UsersAndOpenInputs.{IsEntered}
use Rattle.llb_board.proofs.users_and_open_inputs.enter.Given as goal

abbrev pub invariant-loop-edge : goal.invariant-loop-edge
invariant-loop-edge l = IsEntered (take l.edge-index l.edges) l.v (map (λ u. u.items) l.fn.users.items) (map (λ u. u.items) l.users.items) l.more
