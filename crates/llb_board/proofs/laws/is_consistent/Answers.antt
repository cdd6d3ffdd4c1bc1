use Rattle.llb_board.proofs.RecordedRunStates.{consistent}
use Rattle.llb_board.proofs.laws.is_consistent.Goals as goal

pub returns : goal.returns
returns c =
    consistent c.args.board.now c.replays.ensures.run
