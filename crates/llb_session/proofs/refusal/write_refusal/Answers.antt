-- The word `fault`, the text of the refusal, and the end of the line.
use Rattle.std.proofs.Common.{◌++◌, codes}
use Rattle.std.proofs.lemmas.Result.{err_from_is_err_and}
use Rattle.llb_stepper.specs.Faults.{stepper_text}
use Rattle.llb_session.proofs.ConsecutiveTexts.{takes_both, takes_part}
use Rattle.llb_session.proofs.refusal.write_refusal.Goals as goal

pub returns-in_err-write_all-clause-takes : goal.returns-in_err-write_all-clause-takes
returns-in_err-write_all-clause-takes g c =
    let fails = (err_from_is_err_and c.from_residual.result c.from_residual.ensures.1).1 in
    takes_part _ _ _ (codes "fault ") (stepper_text c.args.fault.now ++ codes "\n") _ _ c.from_residual.result fails c.in_err-write_all.ensures.takes

pub returns-in_err-write_text-clause-takes : goal.returns-in_err-write_text-clause-takes
returns-in_err-write_text-clause-takes g c =
    let fails = (err_from_is_err_and c.from_residual-in_err-write_text.result c.from_residual-in_err-write_text.ensures.1).1 in
    let part = takes_part _ _ _ (stepper_text c.args.fault.now) (codes "\n") _ _ c.from_residual-in_err-write_text.result fails
    c.in_err-write_text.ensures.takes in
    takes_both _ _ _ _ (codes "fault ") (stepper_text c.args.fault.now ++ codes "\n")
    c.from_residual-in_err-write_text.result c.in_ok-write_all.ensures.takes part

pub returns-clause-takes : goal.returns-clause-takes
returns-clause-takes g c =
    takes_both _ _ _ _ (codes "fault ") (stepper_text c.args.fault.now ++ codes "\n") _ c.in_ok-write_all.ensures.takes
    (takes_both _ _ _ _ (stepper_text c.args.fault.now) (codes "\n") _ c.in_ok-write_text.ensures.takes c.write_all-2.ensures.takes)
