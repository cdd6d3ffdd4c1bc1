use Rattle.std.proofs.Common.{◌≡◌, ◌≤◌, [], map, replicate, vec_capacity}
use Rattle.llb_board.proofs.users_and_open_inputs.empty.Given as goal

abbrev pub invariant-loop-i : goal.invariant-loop-i
invariant-loop-i l = (map (λ u. u.items) l.lists.items ≡ replicate l._i []) × (l.count ≤ vec_capacity l.lists)
