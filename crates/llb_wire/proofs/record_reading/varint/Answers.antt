use Rattle.std.proofs.Common.{◌∙◌, arith}
use Rattle.llb_wire.proofs.Varints.{are_bytes, varint_only}
use Rattle.llb_wire.proofs.ReadingFaults.{at_varint, at_faults}
use Rattle.llb_wire.proofs.record_reading.varint.Goals as goal

pub returns-clause-found : goal.returns-clause-found
returns-clause-found c = at_varint c.args.bytes.now c.args.at c.varint_in.result
    (are_bytes c.args.bytes.now (λ k. omega (arith, c.type_inv.bytes k))) c.requires c.varint_in.ensures.exact

pub returns-clause-only : goal.returns-clause-only
returns-clause-only c = λ n last h. c.varint_in.ensures.exact ∙ varint_only c.args.bytes.now c.args.at n last h

pub returns-clause-faults : goal.returns-clause-faults
returns-clause-faults c = at_faults c.args.bytes.now c.args.at c.varint_in.result c.varint_in.ensures.exact
