use Rattle.llb_progress.proofs.Schedules.{follows, refused}
use Rattle.llb_progress.proofs.schedule.go.Goals as goal

pub returns-in-Ok-clause-granted : goal.returns-in-Ok-clause-granted
returns-in-Ok-clause-granted c = λ t. follows c.args.board.now c.walk.new.self c.args.event _ c.in-Ok.ensures.gives

pub returns-clause-refused : goal.returns-clause-refused
returns-clause-refused c = λ f. refused c.args.board.now c.args.event c.in-Err.fault (c.in-Err.ensures.gives c.in_ok-unless_memory-in-Err.ensures)
