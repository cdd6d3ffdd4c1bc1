use Rattle.std.proofs.Common.{◌∙◌, ◌+◌, Some, Ok, refl, sym, ap, subst, inl}
use Rattle.llb_session.specs.LineReplies.{Answers, Responds}
use Rattle.llb_embed.specs.declared.handle_value.Held.{Held}
use Rattle.llb_embed.proofs.MessageLineCalls.{replies, refuses}
use Rattle.llb_embed.proofs.handle_calls.reply.Goals as goal

pub returns-in-Ok-Some : goal.returns-in-Ok-Some
returns-in-Ok-Some c =
    let held = c.clear.new.held in let s = c.in-Some.session in let t = c.respond.new.session in
    let rest = c.clear.ensures.rest in
    let text = c.in-Ok-Some.text in
    let new : Held = record { locals = held.locals; session = Some t; lines = held.lines + 1; output = text; messages = held.messages } in
    let next = ap (λ h. h.lines + 1) rest in
    let (goes_on, granted, options) = subst (λ o. Responds s (held.lines + 1) c.args.line.now t (Ok o)) c.in-Ok-Some.field-0-is c.in-Ok-Some.ensures in
    let answers : Answers s (held.lines + 1) c.args.line.now text.items t = record { goes_on = goes_on; answers = inl granted; options = options } in
    replies c.args.line.now c.args.held.now new s 0 (sym (ap (λ h. h.session) rest) ∙ c.in-Some.is) (ap (λ h. h.locals) rest)
    (inl (refl, c.clear.ensures.messages, (t, refl, next, subst (λ n. Answers s n c.args.line.now text.items t) next answers)))

pub returns-in-Err : goal.returns-in-Err
returns-in-Err c =
    let held = c.clear.new.held in let s = c.in-Some.session in let t = c.respond.new.session in
    let rest = c.clear.ensures.rest in
    let (goes_on, refused, same) = c.in-Err.ensures in
    let now : Held = record { locals = held.locals; session = Some t; lines = held.lines; output = held.output; messages = held.messages } in
    refuses c.args.line.now c.args.held.now now c.refused.new.held s t c.in-Err.fault c.refused.result (sym (ap (λ h. h.session) rest) ∙ c.in-Some.is)
    (ap (λ h. h.locals) rest) refl (ap (λ h. h.lines) rest) goes_on refused same c.refused.ensures
