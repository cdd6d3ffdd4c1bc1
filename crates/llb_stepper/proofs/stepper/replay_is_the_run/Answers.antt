use Rattle.llb_stepper.proofs.StepperReplay.{has_run}
use Rattle.llb_stepper.proofs.BoardReplay.{replayed}
use Rattle.llb_stepper.proofs.stepper.replay_is_the_run.Goals as goal

pub returns-clause-leads : goal.returns-clause-leads
returns-clause-leads c = replayed c.args.board.now c.replays.ensures.run

pub returns-clause-lines : goal.returns-clause-lines
returns-clause-lines c = has_run c.args.board.now c.replays.ensures.run
