use Rattle.llb_model.proofs.ExclusiveHolders.{held_once}
use Rattle.llb_model.proofs.UntouchedExclusiveInstances.{locked_once}
use Rattle.llb_board.proofs.laws.held_once.Goals as goal

pub returns-clause-instances : goal.returns-clause-instances
returns-clause-instances c = held_once c.args.board.now.build

pub returns-clause-locked : goal.returns-clause-locked
returns-clause-locked c = locked_once c.args.board.now.build
