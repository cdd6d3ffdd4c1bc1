use Rattle.std.proofs.Common.{arith}
use Rattle.llb_stepper.proofs.EventSequences.{one_fewer}
use Rattle.llb_stepper.proofs.stepper.Stepper.back_by.Goals as goal

pub loop-i-preserved : goal.loop-i-preserved
loop-i-preserved c =
    one_fewer c.args.self.now c.loop-i.self c.back.new.self c.loop-i._i c.back.result c.loop-i.invariant (omega (arith, c.requires, c.loop-i-test.true))
    c.back.ensures.ok c.back.ensures.none
