use Rattle.std.proofs.Common.{subst}
use Rattle.std.proofs.lemmas.Result.{err_from_is_err_and}
use Rattle.llb_commands.specs.Running.{Opens}
use Rattle.llb_commands.proofs.RunOutput.{finishes_whole}
use Rattle.llb_commands.proofs.DriverRunEnds.{finishes}
use Rattle.llb_commands.proofs.run.finished.Goals as goal

pub returns : goal.returns
returns c = λ locals input opens.
    let (graph, loads, begun) = subst (Opens 1 locals input) c.in_ok-board.was opens in
    let ends = c.run_alone-board.ensures in
    finishes_whole 1 locals input graph c.run_alone-board.result.board c.run_alone-board.result.fault c.whole.result loads (λ none.
    finishes locals graph c.in_ok-board.board c.run_alone-board.result.board c.is_graph.ensures begun ends.goes (λ fresh. ends.order fresh none)
    (ends.plain none) c.is_consistent.ensures) c.whole.ensures

pub returns-in_err-board : goal.returns-in_err-board
returns-in_err-board c = λ locals input opens.
    let tells = subst (Opens 1 locals input) c.in_err-board.was opens in
    let p = err_from_is_err_and c.from_residual.result c.from_residual.ensures.1 in
    rw (p.1, p.2) tells
