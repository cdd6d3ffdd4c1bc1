-- The number of a refusal, and then its argument.
use Rattle.std.proofs.Common.{codes, sym, subst}
use Rattle.std.specs.Fmt.{decimal}
use Rattle.std.proofs.lemmas.Result.{err_from_is_err_and}
use Rattle.llb_wire.specs.Sink.{TakesAll}
use Rattle.llb_board.specs.Faults.{walk_text}
use Rattle.llb_stepper.specs.Faults.{stepper_text}
use Rattle.llb_stepper.specs.declared.fault.StepperFault.{StepperFault}
use Rattle.llb_session.proofs.ConsecutiveTexts.{takes_both, takes_part}
use Rattle.llb_session.proofs.refusal.write_text.Goals as goal

pub returns-in_err-write_all-in-Board-clause-takes : goal.returns-in_err-write_all-in-Board-clause-takes
returns-in_err-write_all-in-Board-clause-takes g c =
    let fails = (err_from_is_err_and c.from_residual.result c.from_residual.ensures.1).1 in
    let after = c.write_all.new.sink in
    subst (λ (fault : StepperFault). TakesAll (g.S.Sink.taken c.args.sink.now) (g.S.Sink.taken after) (g.S.Sink.failed after) (stepper_text fault)
    c.from_residual.result) (sym c.in-Board.is)
    (takes_part _ _ _ (codes "171 ") (walk_text c.in-Board.fault) _ _ c.from_residual.result fails c.in_err-write_all-in-Board.ensures.takes)

pub returns-in_ok-write_all-in-Board-clause-takes : goal.returns-in_ok-write_all-in-Board-clause-takes
returns-in_ok-write_all-in-Board-clause-takes g c =
    let after = c.write_walk.new.sink in
    subst (λ (fault : StepperFault). TakesAll (g.S.Sink.taken c.args.sink.now) (g.S.Sink.taken after) (g.S.Sink.failed after) (stepper_text fault)
    c.write_walk.result) (sym c.in-Board.is)
    (takes_both _ _ _ _ (codes "171 ") (walk_text c.in-Board.fault) _ c.in_ok-write_all-in-Board.ensures.takes c.write_walk.ensures.takes)

pub returns-in_err-write_all-in-BadCommand-clause-takes : goal.returns-in_err-write_all-in-BadCommand-clause-takes
returns-in_err-write_all-in-BadCommand-clause-takes g c =
    let fails = (err_from_is_err_and c.from_residual-in_err-write_all-in-BadCommand.result c.from_residual-in_err-write_all-in-BadCommand.ensures.1).1 in
    let after = c.write_all-in-BadCommand.new.sink in
    subst (λ (fault : StepperFault). TakesAll (g.S.Sink.taken c.args.sink.now) (g.S.Sink.taken after) (g.S.Sink.failed after) (stepper_text fault)
    c.from_residual-in_err-write_all-in-BadCommand.result) (sym c.in-BadCommand.is)
    (takes_part _ _ _ (codes "173 ") (decimal c.in-BadCommand.line) _ _ c.from_residual-in_err-write_all-in-BadCommand.result fails
    c.in_err-write_all-in-BadCommand.ensures.takes)

pub returns-in_ok-write_all-in-BadCommand-clause-takes : goal.returns-in_ok-write_all-in-BadCommand-clause-takes
returns-in_ok-write_all-in-BadCommand-clause-takes g c =
    let after = c.write_number.new.sink in
    subst (λ (fault : StepperFault). TakesAll (g.S.Sink.taken c.args.sink.now) (g.S.Sink.taken after) (g.S.Sink.failed after) (stepper_text fault)
    c.write_number.result) (sym c.in-BadCommand.is)
    (takes_both _ _ _ _ (codes "173 ") (decimal c.in-BadCommand.line) _ c.in_ok-write_all-in-BadCommand.ensures.takes c.write_number.ensures.takes)
