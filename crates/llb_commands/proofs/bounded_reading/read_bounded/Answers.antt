use Rattle.std.proofs.Common.{arith}
use Rattle.llb_commands.proofs.bounded_reading.read_bounded.Goals as goal

pub returns-clause-reads : goal.returns-clause-reads
returns-clause-reads g c =
    let i = c.loop-i.invariant in
    record { took = record { bytes = c.loop-i.bytes.items; few = i.0; rest = i.2 }; each = omega (arith, i.3, c.loop-i-test.false) }
