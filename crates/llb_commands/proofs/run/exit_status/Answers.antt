use Rattle.llb_commands.proofs.RunOutput.{stream, tells_fault}
use Rattle.llb_commands.proofs.run.exit_status.Goals as goal

pub returns-in-Err : goal.returns-in-Err
returns-in-Err g c =
    tells_fault (g.W.Write.contents c.args.out.now)
    (stream (g.E.Write.contents c.args.err.now) (g.E.Write.contents c.refusal-in-Err.new.err))
    c.args.ended c.in-Err.fault c.refusal-in-Err.result c.in-Err.is c.refusal-in-Err.ensures
