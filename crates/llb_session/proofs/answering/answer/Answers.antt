use Rattle.std.proofs.Common.{◌++◌, subst, sym}
use Rattle.std.specs.Prelude.{Ok}
use Rattle.llb_session.specs.LineReplies.{Answers, Responds, end_line}
use Rattle.llb_session.specs.PrintedTexts.{fault_line}
use Rattle.llb_session.proofs.ChosenEventRefusals.{grants_answer, refusal_answers, replied, says}
use Rattle.llb_session.proofs.answering.answer.Goals as goal

pub returns-in-Ok-Some : goal.returns-in-Ok-Some
returns-in-Ok-Some g c =
    let s = c.args.session.now in
    let t = c.respond.new.session in
    let (goes_on, granted, options) = subst (λ o. Responds s c.args.number c.args.line.now t (Ok o)) c.in-Ok-Some.field-0-is c.in-Ok-Some.ensures in
    let answers = grants_answer s t c.args.number c.args.line.now c.in-Ok-Some.text.items goes_on granted options in
    let text = c.as_slice.result.now in
    says s t c.args.number c.args.line.now (text ++ end_line s.options.ends) (g.W.Write.contents c.args.out.now) (g.W.Write.contents c.reply.new.out)
    c.reply.result
    (replied s t c.args.number c.args.line.now text (subst (λ x. Answers s c.args.number c.args.line.now x t) (sym c.as_slice.ensures.value) answers))
    c.reply.ensures

pub returns-in-Err : goal.returns-in-Err
returns-in-Err g c =
    let s = c.args.session.now in
    let t = c.respond.new.session in
    let fault = c.in-Err.fault in
    let (goes_on, refused, same) = c.in-Err.ensures in
    let answers = refusal_answers s t c.args.number c.args.line.now fault goes_on refused same in
    says s t c.args.number c.args.line.now (fault_line fault ++ end_line s.options.ends) (g.W.Write.contents c.args.out.now)
    (g.W.Write.contents c.refuse.new.out) c.refuse.result (replied s t c.args.number c.args.line.now (fault_line fault) answers) c.refuse.ensures
