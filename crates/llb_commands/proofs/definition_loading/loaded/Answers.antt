use Rattle.std.proofs.Common.{subst, sym}
use Rattle.llb_commands.specs.ProgramOutput.{IsRefused}
use Rattle.llb_commands.specs.Running.{TellsRefusal}
use Rattle.llb_commands.proofs.RunOutput.{reads_graph, tells, tells_unread, all_read}
use Rattle.llb_commands.proofs.definition_loading.loaded.Goals as goal

pub returns-in-Err : goal.returns-in-Err
returns-in-Err g c =
    tells_unread (g.R.Read.remaining c.args.input.now) (g.R.Read.remaining c.read_bounded.new.input) c.read_bounded.result c.in-Err.fault c.unread.result
    c.in-Err.is c.unread.ensures c.read_bounded.ensures.reads

pub returns-in-Ok-load_owned : goal.returns-in-Ok-load_owned
returns-in-Ok-load_owned g c = reads_graph (g.R.Read.remaining c.args.input.now) c.in-Ok-load_owned.graph c.in-Ok.bytes.items
    (all_read (g.R.Read.remaining c.args.input.now) (g.R.Read.remaining c.read_bounded.new.input) c.read_bounded.result c.in-Ok.bytes c.in-Ok.is
    c.read_bounded.ensures.reads)
    c.in-Ok-load_owned.ensures.graph

pub returns-in-Err-load_owned : goal.returns-in-Err-load_owned
returns-in-Err-load_owned g c =
    let left = g.R.Read.remaining c.args.input.now in
    subst (TellsRefusal IsRefused left) (sym c.passed_on.ensures)
    (tells left c.in-Err-load_owned.fault c.in-Ok.bytes.items
    (all_read left (g.R.Read.remaining c.read_bounded.new.input) c.read_bounded.result c.in-Ok.bytes c.in-Ok.is c.read_bounded.ensures.reads)
    c.in-Err-load_owned.ensures.refused)
