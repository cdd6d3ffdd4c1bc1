use Rattle.std.proofs.Common.{arith}
use Rattle.llb_wire.proofs.Varints.{are_bytes}
use Rattle.llb_ops.proofs.RecordGrammar.{read_of_records}
use Rattle.llb_ops.proofs.op.op_is_read_of_records.Goals as goal

pub returns : goal.returns
returns c = read_of_records c.args.bytes.now (are_bytes c.args.bytes.now (λ k. omega (arith, c.type_inv.bytes k)))
