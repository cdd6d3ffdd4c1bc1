use Rattle.llb_wire.proofs.Varints.{is_shortest, reads_back}
use Rattle.std.proofs.Common.{arith}
use Rattle.llb_wire.proofs.record_writing.write_varint.Goals as goal

pub returns-then-is_err-clause-shortest : goal.returns-then-is_err-clause-shortest
returns-then-is_err-clause-shortest c = is_shortest c.args.value (omega arith)

pub returns-then-is_err-clause-again : goal.returns-then-is_err-clause-again
returns-then-is_err-clause-again c = λ rest. reads_back c.args.value rest (omega arith)

pub returns-else-is_err-clause-shortest : goal.returns-else-is_err-clause-shortest
returns-else-is_err-clause-shortest c = is_shortest c.args.value (omega arith)

pub returns-else-is_err-clause-again : goal.returns-else-is_err-clause-again
returns-else-is_err-clause-again c = λ rest. reads_back c.args.value rest (omega arith)
