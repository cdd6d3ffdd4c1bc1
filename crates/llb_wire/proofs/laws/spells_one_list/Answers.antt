use Rattle.llb_wire.proofs.SpelledRecords.{one_list}
use Rattle.llb_wire.proofs.laws.spells_one_list.Goals as goal

pub returns : goal.returns
returns c = one_list c.args.bytes.now
