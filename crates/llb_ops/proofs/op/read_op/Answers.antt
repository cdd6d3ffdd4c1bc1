use Rattle.llb_ops.proofs.ReadOpsWithinLimits.{op_read_within}
use Rattle.llb_ops.proofs.op.read_op.Goals as goal

pub returns-clause-within : goal.returns-clause-within
returns-clause-within c = op_read_within c.args.bytes.now c.read_message.result c.if-bytes-gt-ENTRY_LIMIT.false c.read_message.ensures
