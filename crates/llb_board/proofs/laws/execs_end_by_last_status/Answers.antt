use Rattle.llb_model.proofs.ExecWorkerStates.{execs_end_by_last_status}
use Rattle.llb_model.proofs.ScriptEndings.{fails_by_last_status}
use Rattle.llb_board.proofs.laws.execs_end_by_last_status.Goals as goal

pub returns-clause-alone : goal.returns-clause-alone
returns-clause-alone c = fails_by_last_status

pub returns-clause-among_others : goal.returns-clause-among_others
returns-clause-among_others c = execs_end_by_last_status c.args.board.now.build
