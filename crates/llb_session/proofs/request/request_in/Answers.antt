use Rattle.std.proofs.Common.{ap, ◌∙◌}
use Rattle.llb_session.specs.Request.{asked_in}
use Rattle.llb_session.proofs.Requests.{of_text, of_none}
use Rattle.llb_session.proofs.request.request_in.Goals as goal

pub returns-in-Ok : goal.returns-in-Ok
returns-in-Ok c =
    c.asked.ensures ∙ ap (λ l. asked_in c.args.looks l) c.in-Ok.ensures.cases.0 ∙ of_text c.args.looks c.args.line.now c.in-Ok.ensures.cases.1

pub returns-in-Err : goal.returns-in-Err
returns-in-Err c = of_none c.args.looks c.args.line.now c.in-Err.ensures.cases.0
