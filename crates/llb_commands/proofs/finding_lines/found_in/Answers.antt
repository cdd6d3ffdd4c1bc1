use Rattle.std.proofs.Common.{subst}
use Rattle.llb_commands.specs.FindingLines.{FindsIn}
use Rattle.llb_commands.proofs.FoundFaults.{finds_read, finds_unread}
use Rattle.llb_commands.proofs.RunOutput.{all_read}
use Rattle.llb_commands.proofs.finding_lines.found_in.Goals as goal

pub returns-in-Ok : goal.returns-in-Ok
returns-in-Ok g c =
    let left = g.R.Read.remaining c.args.input.now in
    finds_read left c.in-Ok.bytes.items c.found_of.result
    (all_read left (g.R.Read.remaining c.read_bounded.new.input) c.read_bounded.result c.in-Ok.bytes c.in-Ok.is c.read_bounded.ensures.reads)
    (subst (λ bytes. FindsIn bytes c.found_of.result) c.as_slice.ensures.value c.found_of.ensures)

pub returns-in-Err : goal.returns-in-Err
returns-in-Err g c =
    finds_unread (g.R.Read.remaining c.args.input.now) (g.R.Read.remaining c.read_bounded.new.input) c.read_bounded.result c.in-Err.fault
    c.found_unread.result c.in-Err.is c.read_bounded.ensures.reads c.found_unread.ensures
