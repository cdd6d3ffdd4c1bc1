-- As many of the events were done as the loop has counted, and none met a breakpoint.
use Rattle.std.proofs.Common.{◌≡◌, map, length}
use Rattle.llb_stepper.proofs.EventSequences.{GoneTo}
use Rattle.llb_stepper.proofs.stepper.Stepper.replay.Given as goal

abbrev pub invariant-loop-event : goal.invariant-loop-event
invariant-loop-event l = GoneTo l.fn.self l.events l.self l.event-index × (l.start ≡ length l.fn.self.past)
