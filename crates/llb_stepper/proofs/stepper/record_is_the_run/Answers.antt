use Rattle.std.proofs.Common.{ap}
use Rattle.llb_stepper.specs.Stepping.{Stepping}
use Rattle.llb_stepper.proofs.RecordReplies.{is_the_run}
use Rattle.llb_stepper.proofs.BoardReplay.{past_is}
use Rattle.llb_stepper.proofs.stepper.record_is_the_run.Goals as goal

pub returns : goal.returns
returns c =
    is_the_run c.args.stepper.now (past_is c.stepper.inside.board c.stepper.inside.walked.items c.args.stepper.now c.stepper.invariant
    (ap (λ (x : Stepping). x.board) c.stepper.view_is) (ap (λ (x : Stepping). x.past) c.stepper.view_is))
