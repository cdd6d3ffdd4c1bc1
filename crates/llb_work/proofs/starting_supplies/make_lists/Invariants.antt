use Rattle.std.proofs.Common.{◌≡◌, ◌≤◌, vec_len}
use Rattle.std.specs.Prelude.{vec_capacity}
use Rattle.llb_work.proofs.starting_supplies.make_lists.Given as goal

abbrev pub invariant-loop-w : goal.invariant-loop-w
invariant-loop-w l = record {
  len : vec_len l.lists ≡ l._w;
  room : l.n ≤ vec_capacity l.lists;
}
