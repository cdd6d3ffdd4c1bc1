use Rattle.std.proofs.Common.{ap}
use Rattle.llb_stepper.specs.Stepping.{Stepping}
use Rattle.llb_stepper.proofs.UndoableEventsByTable.{chosen_done}
use Rattle.llb_stepper.proofs.stepper.chosen_is_done.Goals as goal

pub returns : goal.returns
returns c = chosen_done c.stepper.inside.board c.args.stepper.now (ap (λ (x : Stepping). x.board) c.stepper.view_is) c.chosen_is_granted.ensures
