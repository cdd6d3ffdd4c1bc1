use Rattle.llb_work.proofs.shared_board.SharedBoard.go_on.Goals as goal

pub returns-in-Some-Runs-default-default-true : goal.returns-in-Some-Runs-default-default-true
returns-in-Some-Runs-default-default-true g c = c.left.ensures c.args.w
