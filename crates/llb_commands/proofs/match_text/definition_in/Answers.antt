use Rattle.llb_commands.proofs.RunOutput.{all_read, tells_over_limit}
use Rattle.llb_commands.proofs.match_text.definition_in.Goals as goal

pub returns-in-Ok-clause-read : goal.returns-in-Ok-clause-read
returns-in-Ok-clause-read g c =
    all_read (g.R.Read.remaining c.args.input.now) (g.R.Read.remaining c.read_bounded.new.input) c.read_bounded.result c.in-Ok.bytes c.in-Ok.is
    c.read_bounded.ensures.reads

pub returns-in-Err-clause-refused : goal.returns-in-Err-clause-refused
returns-in-Err-clause-refused g c =
    tells_over_limit (g.R.Read.remaining c.args.input.now) (g.R.Read.remaining c.read_bounded.new.input) c.read_bounded.result c.in-Err.fault c.unread.result
    c.in-Err.is c.unread.ensures c.read_bounded.ensures.reads
