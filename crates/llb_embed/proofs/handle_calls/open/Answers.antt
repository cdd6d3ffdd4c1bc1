use Rattle.std.proofs.Common.{◌∙◌, ap, subst, inr, Some}
use Rattle.llb_commands.specs.ProgramOutput.{IsNotRun}
use Rattle.llb_commands.specs.Faults.{Tells}
use Rattle.llb_commands.specs.Running.{TellsRefusal}
use Rattle.llb_embed.proofs.MessageLineCalls.{tells_opening}
use Rattle.llb_embed.proofs.handle_calls.open.Goals as goal

pub returns-in-Err : goal.returns-in-Err
returns-in-Err c =
    let rest = c.clear.ensures.rest in
    let fault = c.in-Err.fault in
    let messages = c.refusal.new.err.items in
    let same = c.in-Ok.ensures ∙ ap (λ h. h.locals) rest in
    let why = subst (λ ls. TellsRefusal (IsNotRun c.args.workers ls) (Some c.args.definition.now) fault) same c.in-Err.ensures in
    let told = subst (λ before. Tells (Some before) (Some messages) fault c.refusal.result) c.clear.ensures.messages c.refusal.ensures in
    let ends = tells_opening c.args.workers c.args.held.now.locals c.args.definition.now messages fault c.refusal.result why told in
    (ap (λ h. h.locals) rest, c.clear.ensures.output, inr (ap (λ h. h.session) rest, ap (λ h. h.lines) rest, ends))
