use Rattle.std.proofs.Common.{◌≤◌, map, length, vec_capacity}
use Rattle.llb_board.proofs.UserListConstruction.{Linking}
use Rattle.llb_board.proofs.users_and_open_inputs.Links.new.Given as goal

abbrev pub invariant-loop-v : goal.invariant-loop-v
invariant-loop-v l = Linking l.vertices l.v (map (λ u. u.items) l.users.items) l.counts.items × (length l.vertices ≤ vec_capacity l.counts)
