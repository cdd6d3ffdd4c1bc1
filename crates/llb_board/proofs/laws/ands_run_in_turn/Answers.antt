use Rattle.llb_model.proofs.ScriptEndings.{ands_run_in_turn}
use Rattle.llb_board.proofs.laws.ands_run_in_turn.Goals as goal

pub returns : goal.returns
returns c = ands_run_in_turn
