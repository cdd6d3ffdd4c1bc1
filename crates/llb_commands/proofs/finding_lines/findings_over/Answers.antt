use Rattle.std.proofs.Common.{inr}
use Rattle.llb_commands.proofs.FoundFaults.{three_told}
use Rattle.llb_commands.proofs.RunOutput.{stream}
use Rattle.llb_commands.proofs.finding_lines.findings_over.Goals as goal

pub returns-in-Err : goal.returns-in-Err
returns-in-Err g c =
    inr (inr (
      three_told (stream (g.E.Write.contents c.args.err.now) (g.E.Write.contents c.refusal.new.err)) c.in-Err.fault c.refusal.result
          c.in-Err.ensures.0 c.refusal.ensures,
      c.in-Err.ensures.1,
    ))
