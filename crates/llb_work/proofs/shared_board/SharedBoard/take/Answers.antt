use Rattle.llb_work.proofs.shared_board.SharedBoard.take.Goals as goal

pub returns-in-Err-Held : goal.returns-in-Err-Held
returns-in-Err-Held g c = c.wait_for.ensures c.args.w
