use Rattle.std.proofs.Common.{subst}
use Rattle.llb_board.specs.BoardValue.{BoardValue}
use Rattle.llb_progress.specs.Schedules.{GoesByChosen}
use Rattle.llb_progress.proofs.Schedules.{few_more, goes_on, on_ok}
use Rattle.llb_progress.proofs.schedule.run_by.Goals as goal

pub returns-clause-goes : goal.returns-clause-goes
returns-clause-goes c = goes_on c.args.board.now c.go_by.new.board c.go_to_end.new.board c.go_by.ensures.goes c.go_to_end.ensures.goes.goes

pub returns-clause-schedule : goal.returns-clause-schedule
returns-clause-schedule c =
    on_ok c.go_to_end.result (subst (λ (x : BoardValue). GoesByChosen x c.go_to_end.new.board) c.in_ok-go_by.ensures.all c.go_to_end.ensures.goes)

pub returns-clause-few : goal.returns-clause-few
returns-clause-few c =
    few_more c.args.board.now c.go_to_end.new.board c.ends_whatever_comes.ensures.few
    (goes_on c.args.board.now c.go_by.new.board c.go_to_end.new.board c.go_by.ensures.goes c.go_to_end.ensures.goes.goes)
