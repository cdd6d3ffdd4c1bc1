use Rattle.std.proofs.Common.{refl, arith}
use Rattle.llb_ops.proofs.ItemwiseListEquality.{all_same}
use Rattle.llb_ops.proofs.same.same_entries.Goals as goal

pub returns : goal.returns
returns c = (
  λ _. all_same c.args.held.now.entries c.args.others.now.entries (omega (arith, c.len.ensures.len, c.len-2.ensures.len, c.if-len.false))
      (λ k below. c.loop-i.invariant k (omega (arith, below, c.loop-i-test.false, c.len-i-end.ensures.len))),
  λ _. refl,
)
