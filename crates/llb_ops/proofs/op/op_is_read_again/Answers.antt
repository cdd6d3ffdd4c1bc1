use Rattle.llb_ops.proofs.MessageRoundTrips.{op_returns}
use Rattle.llb_ops.proofs.op.op_is_read_again.Goals as goal

pub returns : goal.returns
returns c = op_returns c.args.op.now
