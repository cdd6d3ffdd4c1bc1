use Rattle.std.proofs.Common.{rules, subst, sym}
use Rattle.std.proofs.lemmas.Result.{err_from_is_err_and}
use Rattle.llb_commands.specs.Running.{Finishes, Opens}
use Rattle.llb_commands.proofs.RunOutput.{finishes_whole}
use Rattle.llb_commands.proofs.DriverRunEnds.{finishes_by}
use Rattle.llb_commands.proofs.run.finished_by.Goals as goal

pub returns-then-workers-eq1 : goal.returns-then-workers-eq1
returns-then-workers-eq1 g c = λ locals input opens.
    let one = c.if-workers-eq1.true in
    subst (λ n. Finishes n locals input c.finished.result) (sym one)
    (c.finished.ensures locals input (subst (λ n. Opens n locals input c.args.opened) one opens))

pub returns : goal.returns
returns g c = λ locals input opens.
    let (graph, loads, begun) = subst (Opens c.args.workers locals input) c.in_ok-board.was opens in
    let ran = c.run_workers-board.ensures in
    let several = c.if-workers-eq1.false in
    finishes_whole c.args.workers locals input graph c.run_workers-board.result.board c.run_workers-board.result.fault c.whole.result loads (λ none.
    let complete = ran.complete none in
    finishes_by locals graph c.args.workers c.in_ok-board.board c.run_workers-board.result.board (search rules) begun ran.leads.0 complete
    (λ plain. c.complete_is_plain.ensures plain complete) c.is_consistent.ensures) c.whole.ensures

pub returns-in_err-board : goal.returns-in_err-board
returns-in_err-board g c = λ locals input opens.
    let tells = subst (Opens c.args.workers locals input) c.in_err-board.was opens in
    let p = err_from_is_err_and c.from_residual.result c.from_residual.ensures.1 in
    rw (p.1, p.2) tells
