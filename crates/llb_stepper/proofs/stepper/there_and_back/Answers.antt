use Rattle.llb_stepper.proofs.UndoableEventsByTable.{gone_and_back}
use Rattle.llb_stepper.proofs.stepper.there_and_back.Goals as goal

pub returns : goal.returns
returns c = gone_and_back c.args.stepper.now
