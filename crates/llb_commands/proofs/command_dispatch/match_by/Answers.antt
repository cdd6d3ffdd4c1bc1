use Rattle.std.proofs.Common.{inr}
use Rattle.std.proofs.KnownBytes.{Keeps-refl}
use Rattle.llb_commands.proofs.command_dispatch.match_by.Goals as goal

pub returns-in-Err : goal.returns-in-Err
returns-in-Err g c = inr (Keeps-refl (g.W.Write.contents c.args.out.now), (c.in-Err.fault, c.in-Err.ensures.refused, c.refusal.ensures))
