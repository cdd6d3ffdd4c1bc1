use Rattle.std.proofs.Common.{arith}
use Rattle.llb_wire.proofs.VarintLimits.{limit_small, limit_step, limit_wide}
use Rattle.llb_wire.proofs.record_reading.+varint_of.Goals as goal

pub overflow_mul-result : goal.overflow_mul-result
overflow_mul-result t c = omega (arith, limit_small c.args.more c.requires, limit_step c.args.more (omega arith), c.in_ok-high-in-len1-up-3.ensures.small)

pub overflow_add-result : goal.overflow_add-result
overflow_add-result t c = omega (arith, limit_small c.args.more c.requires, limit_step c.args.more (omega arith), c.in_ok-high-in-len1-up-3.ensures.small)

pub returns-in-len1-up-2-clause-small : goal.returns-in-len1-up-2-clause-small
returns-in-len1-up-2-clause-small t c = omega (arith, limit_wide c.args.more (omega arith))
