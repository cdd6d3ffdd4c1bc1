use Rattle.std.proofs.Common.{arith}
use Rattle.llb_wire.proofs.SpelledRecords.{written_is_shortest}
use Rattle.llb_wire.proofs.Varints.{are_bytes}
use Rattle.llb_wire.proofs.RecordsReadBack.{record_again}
use Rattle.llb_wire.proofs.record_writing.write_record.Goals as goal

pub returns-then-is_err-clause-shortest : goal.returns-then-is_err-clause-shortest
returns-then-is_err-clause-shortest c = written_is_shortest c.args.number c.args.wire c.args.value c.args.payload.now
    (c.requires.named, c.requires.number) (omega arith) (omega arith) c.requires.value
    (are_bytes c.args.payload.now (λ k. omega (arith, c.type_inv.payload k)))

pub returns-then-is_err-clause-again : goal.returns-then-is_err-clause-again
returns-then-is_err-clause-again c = λ rest. record_again c.args.number c.args.wire c.args.value c.args.payload.now rest
    (c.requires.named, c.requires.number) (omega arith) (omega arith) c.requires.value

pub returns-else-is_err-clause-shortest : goal.returns-else-is_err-clause-shortest
returns-else-is_err-clause-shortest c = written_is_shortest c.args.number c.args.wire c.args.value c.args.payload.now
    (c.requires.named, c.requires.number) (omega arith) (omega arith) c.requires.value
    (are_bytes c.args.payload.now (λ k. omega (arith, c.type_inv.payload k)))

pub returns-else-is_err-clause-again : goal.returns-else-is_err-clause-again
returns-else-is_err-clause-again c = λ rest. record_again c.args.number c.args.wire c.args.value c.args.payload.now rest
    (c.requires.named, c.requires.number) (omega arith) (omega arith) c.requires.value
