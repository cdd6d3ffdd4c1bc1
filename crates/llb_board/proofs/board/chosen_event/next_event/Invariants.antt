use Rattle.std.proofs.Common.{◌≡◌, ◌≤◌, drop, length}
use Rattle.llb_model.specs.Run.{next_of}
use Rattle.llb_board.proofs.board.chosen_event.next_event.Given as goal

abbrev pub invariant-loop-w : goal.invariant-loop-w
invariant-loop-w l = record {
  so_far : next_of l.vertices.build l.w (drop l.w l.workers.workers) ≡ next_of l.vertices.build 0 l.workers.workers;
  few : length l.workers.workers ≤ 64;
}
