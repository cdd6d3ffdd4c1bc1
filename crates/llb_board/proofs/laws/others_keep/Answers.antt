use Rattle.llb_model.proofs.UntouchedExclusiveInstances.{others_keep, others_ignore}
use Rattle.llb_board.proofs.UntouchedByEvents.{others}
use Rattle.llb_board.proofs.laws.others_keep.Goals as goal

pub returns-clause-workers : goal.returns-clause-workers
returns-clause-workers c = others c.args.board.now.build c.args.board.now.state

pub returns-clause-instances : goal.returns-clause-instances
returns-clause-instances c = others_keep c.args.board.now.build

pub returns-clause-unseen : goal.returns-clause-unseen
returns-clause-unseen c = others_ignore c.args.board.now.build
