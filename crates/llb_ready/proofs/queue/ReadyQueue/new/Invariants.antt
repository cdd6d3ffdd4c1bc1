use Rattle.std.proofs.Common.{◌≡◌}
use Rattle.crossbeam_queue.specs.Passes.{view, IsPassOf}
use Rattle.llb_ready.specs.PassKnowledge.{first_hand}
use Rattle.llb_ready.proofs.queue.ReadyQueue.new.Given as goal

abbrev pub invariant-loop-i : goal.invariant-loop-i
invariant-loop-i l = record {
  of : IsPassOf l.queue l.pass;
  hand : view l.pass ≡ first_hand l._i;
}
