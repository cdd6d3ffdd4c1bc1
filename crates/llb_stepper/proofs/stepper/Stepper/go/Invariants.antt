-- The chosen events so far; fewer can come with each.
use Rattle.std.proofs.Common.{◌≡◌, length}
use Rattle.llb_model.specs.EventBounds.{still_to_come}
use Rattle.llb_stepper.proofs.EventSequences.{Chosen}
use Rattle.llb_stepper.proofs.stepper.Stepper.go.Given as goal

abbrev pub invariant-loop-event : goal.invariant-loop-event
invariant-loop-event l = Chosen l.fn.self l.self × (l.before ≡ length l.fn.self.past)

abbrev pub decreases-loop-event : goal.decreases-loop-event
decreases-loop-event l = still_to_come l.self.board.build l.self.board.state
