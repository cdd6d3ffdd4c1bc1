use Rattle.std.proofs.Common.{sym, ◌∙◌}
use Rattle.llb_session.proofs.ChosenEventRefusals.{chosen_comes}
use Rattle.llb_session.proofs.answering.do_next.Goals as goal

pub returns : goal.returns
returns c =
    chosen_comes c.args.stepper.now c.do_event.new.stepper c.in-Some.event c.do_event.result c.chosen_is_done.ensures
    (sym c.in-Some.is ∙ c.next.ensures) c.do_event.ensures
