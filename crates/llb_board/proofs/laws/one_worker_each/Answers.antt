use Rattle.llb_board.proofs.UntouchedByEvents.{one_each}
use Rattle.llb_board.proofs.laws.one_worker_each.Goals as goal

pub returns : goal.returns
returns c = one_each c.args.board.now c.replays.ensures.run
