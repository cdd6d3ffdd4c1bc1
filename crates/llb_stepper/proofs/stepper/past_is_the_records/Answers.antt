use Rattle.std.proofs.Common.{ap}
use Rattle.llb_stepper.specs.Stepping.{Stepping}
use Rattle.llb_stepper.proofs.BoardReplay.{past_is}
use Rattle.llb_stepper.proofs.stepper.past_is_the_records.Goals as goal

pub returns : goal.returns
returns c =
    past_is c.stepper.inside.board c.stepper.inside.walked.items c.args.stepper.now c.stepper.invariant (ap (λ (x : Stepping). x.board) c.stepper.view_is)
    (ap (λ (x : Stepping). x.past) c.stepper.view_is)
