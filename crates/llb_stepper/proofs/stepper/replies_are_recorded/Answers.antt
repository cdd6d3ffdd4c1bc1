use Rattle.llb_stepper.proofs.RepliesAfterEvents.{are_recorded}
use Rattle.llb_stepper.proofs.stepper.replies_are_recorded.Goals as goal

pub returns : goal.returns
returns c = are_recorded c.args.board.now c.replays.ensures.run
