use Rattle.llb_ops.proofs.OpFields.{entry_has}
use Rattle.llb_ops.proofs.laws.entry_has_fields.Goals as goal

pub returns : goal.returns
returns c = entry_has c.args.bytes.now
