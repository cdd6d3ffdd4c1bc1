use Rattle.std.proofs.Common.{subst}
use Rattle.llb_board.specs.BoardValue.{Replays}
use Rattle.llb_session.proofs.GoLines.{go_prints}
use Rattle.llb_session.proofs.laws.go_prints_the_run.Goals as goal

pub returns : goal.returns
returns c = go_prints c.args.stepper.now (subst Replays c.board.ensures c.replays.ensures.run)
