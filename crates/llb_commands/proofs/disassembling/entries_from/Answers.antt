use Rattle.llb_commands.proofs.RunOutput.{tells_no_definition}
use Rattle.llb_commands.proofs.disassembling.entries_from.Goals as goal

pub returns-in-Err : goal.returns-in-Err
returns-in-Err g c =
    tells_no_definition (g.R.Read.remaining c.args.input.now) (g.R.Read.remaining c.read_bounded.new.input) c.read_bounded.result c.in-Err.fault c.unread.result
    c.in-Err.is c.unread.ensures c.read_bounded.ensures.reads
