use Rattle.llb_commands.proofs.RunOutput.{run_told, stream}
use Rattle.llb_commands.proofs.run.print_end.Goals as goal

pub returns : goal.returns
returns g c = λ workers locals input finishes.
    run_told workers locals input.before input.after (g.W.Write.contents c.args.out.now) (g.W.Write.contents c.print_result-ended.new.out)
    (g.W.Write.contents c.exit_status.new.out) (stream (g.E.Write.contents c.args.err.now) (g.E.Write.contents c.exit_status.new.err))
    c.print_result-ended.result c.exit_status.result (c.print_result-ended.ensures workers locals input.before finishes) c.exit_status.ensures
