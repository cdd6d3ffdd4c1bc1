use Rattle.llb_progress.proofs.GrantedProgress.{claimed_or_held_up}
use Rattle.llb_progress.proofs.laws.ready_or_held_up.Goals as goal

pub returns : goal.returns
returns c = claimed_or_held_up c.args.board.now.build c.args.board.now.state
