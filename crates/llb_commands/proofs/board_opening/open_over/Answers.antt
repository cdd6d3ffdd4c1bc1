use Rattle.std.proofs.lemmas.Result.{err_from_is_err_and}
use Rattle.llb_commands.proofs.RunOutput.{opens, tells_no_run}
use Rattle.llb_commands.proofs.board_opening.open_over.Goals as goal

pub returns : goal.returns
returns g c =
    opens c.args.workers c.args.locals (g.R.Read.remaining c.args.input.now) c.in_ok-graph.graph c.opened.result c.in_ok-graph.ensures c.opened.ensures.board
    c.opened.ensures.fault

pub returns-in_err-graph : goal.returns-in_err-graph
returns-in_err-graph g c =
    let unread = tells_no_run c.args.workers c.args.locals (g.R.Read.remaining c.args.input.now) c.in_err-graph.field-0.0 c.in_err-graph.ensures in
    let p = err_from_is_err_and c.from_residual.result c.from_residual.ensures.1 in
    rw (p.1, p.2) unread
