use Rattle.std.proofs.Common.{◌≡◌, ◌++◌}
use Rattle.llb_model.specs.Landing.{steps_by}
use Rattle.llb_board.proofs.history.History.record_steps.Given as goal

abbrev pub invariant-loop-i : goal.invariant-loop-i
invariant-loop-i l = record {
  list : l.self-inside.events.list ≡ l.initial.self-inside.events.list ++ steps_by l.w l._i;
  cancels : l.self-inside.cancels ≡ l.initial.self-inside.cancels;
  room : l.self-inside.events.room ≡ l.initial.self-inside.events.room;
}
