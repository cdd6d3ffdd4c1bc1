use Rattle.std.proofs.Common.{ap}
use Rattle.llb_stepper.specs.Stepping.{Stepping}
use Rattle.llb_stepper.proofs.UndoableEventsByTable.{fewer}
use Rattle.llb_stepper.proofs.stepper.Stepper.back.Goals as goal

pub returns-in-Some-clause-fewer : goal.returns-in-Some-clause-fewer
returns-in-Some-clause-fewer c =
    fewer c.self.inside.board c.undo.new.self c.args.self.now.board c.self.inside.walked.items c.pop.new.self.items c.in-Some.walked c.in-Some.ensures.items
    c.self.invariant (ap (λ (x : Stepping). x.board) c.self.view_is) c.undo.ensures
