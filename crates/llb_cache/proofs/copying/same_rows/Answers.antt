use Rattle.std.proofs.Common.{refl, arith}
use Rattle.llb_cache.proofs.ItemwiseRowEquality.{all_same}
use Rattle.llb_cache.proofs.copying.same_rows.Goals as goal

pub returns : goal.returns
returns c = (
  λ _. all_same c.args.rows.now c.args.others.now (omega (arith, c.if-rows-others.false))
      (λ k below. c.loop-i.invariant k (omega (arith, below, c.loop-i-test.false))),
  λ _. refl,
)
