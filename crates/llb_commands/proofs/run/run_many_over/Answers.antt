use Rattle.llb_commands.proofs.RunOutput.{stream}
use Rattle.llb_commands.proofs.run.run_many_over.Goals as goal

pub returns : goal.returns
returns g c =
    let left = g.R.Read.remaining c.args.input.now in
    c.print_end.ensures c.args.workers c.args.locals (stream left (g.R.Read.remaining c.open_over-opened.new.input))
    (c.finished_by.ensures c.args.locals left c.open_over-opened.ensures)
