use Rattle.std.proofs.Common.{arith}
use Rattle.llb_tree.proofs.SameNames.{names_in, alike_all, same_kids}
use Rattle.llb_tree.proofs.covering_children.are_alike.Goals as goal

pub returns : goal.returns
returns c = λ _. same_kids c.args.upper.now c.args.lower.now (alike_all names_in c.args.upper.now c.args.lower.now c.loop-i.i
    (omega (arith, c.loop-i-test.false)) (omega (arith, c.loop-i-test.false, c.if-upper-lower.false)) c.loop-i.invariant)
