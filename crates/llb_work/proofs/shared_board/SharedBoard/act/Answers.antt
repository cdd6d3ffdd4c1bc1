use Rattle.llb_work.proofs.shared_board.SharedBoard.act.Goals as goal

pub returns-in-Outcome : goal.returns-in-Outcome
returns-in-Outcome g c = c.left.ensures c.args.w
