use Rattle.std.proofs.Common.{inl, inr}
use Rattle.std.proofs.KnownBytes.{Keeps-refl}
use Rattle.llb_commands.proofs.command_dispatch.agree_by.Goals as goal

pub returns-in-Ok : goal.returns-in-Ok
returns-in-Ok g c = inl (c.in-Ok.newer, c.in-Ok.ensures, c.agreements_over.ensures)

pub returns-in-Err : goal.returns-in-Err
returns-in-Err g c = inr (Keeps-refl (g.W.Write.contents c.args.out.now), (c.in-Err.fault, c.in-Err.ensures, c.source_refusal.ensures))
