use Rattle.std.proofs.Common.{refl, arith}
use Rattle.llb_laws.specs.CopiedPaths.{AgreeBelow}
use Rattle.llb_laws.proofs.TreesBelow.{each_path}
use Rattle.llb_laws.proofs.copies.agree_below_each.Goals as goal

pub returns : goal.returns
returns c = (
  λ yes. each_path (AgreeBelow c.args.first.now c.args.second.now) c.args.paths.now
      (λ k l. c.loop-path.invariant k (omega (arith, l, c.loop-path-test.false))),
  λ all. refl,
)
