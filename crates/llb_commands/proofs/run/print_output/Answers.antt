use Rattle.std.proofs.Common.{sym}
use Rattle.llb_commands.proofs.run.print_output.Goals as goal

pub returns-in-Ok : goal.returns-in-Ok
returns-in-Ok g c = (c.in-Some.tree.now, sym c.in-Some.ensures, c.in-Ok.ensures)

pub returns : goal.returns
returns g c = (λ h. h, (c.in-Some.tree.now, sym c.in-Some.ensures, c.in-Err.ensures))
