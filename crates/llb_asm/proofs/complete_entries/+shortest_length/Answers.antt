use Rattle.std.proofs.Common.{arith}
use Rattle.llb_asm.proofs.PrintedLengths.{length_further}
use Rattle.llb_asm.proofs.complete_entries.+shortest_length.Goals as goal

pub returns-clause-same : goal.returns-clause-same
returns-clause-same t c = length_further c.args.more c.args.value c.shortest_length.result
    (λ e. grind (arith, e, c.if-more-eq0.false)) (grind (arith, c.if-value-lt128.false)) c.shortest_length.ensures.same
