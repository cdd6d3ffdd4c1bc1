-- A byte is added to the line that is begun, or ends it.
use Rattle.std.proofs.Common.{refl}
use Rattle.std.proofs.lemmas.Result.{err_from_is_err_and}
use Rattle.llb_session.specs.ConversationStates.{standing}
use Rattle.llb_session.proofs.ConversationByPieces.{byte_on_line, byte_refused, byte_ends, byte_fails}
use Rattle.llb_session.proofs.conversation.hear.Goals as goal

pub returns-in-Err : goal.returns-in-Err
returns-in-Err g c = byte_refused (standing c.args.session.now c.args.pending.now) _ _ _ c.requires.line

pub returns-in-Ok : goal.returns-in-Ok
returns-in-Ok g c =
    byte_on_line (standing c.args.session.now c.args.pending.now) c.args.byte _ _ c.requires.line c.if-byte-ne-LINE_END.true c.in-Ok.ensures.items

pub returns-in_err-goes_on : goal.returns-in_err-goes_on
returns-in_err-goes_on g c =
    let p = err_from_is_err_and c.from_residual.result c.from_residual.ensures.1 in
    rw (p.1, p.2)
    (byte_fails (standing c.args.session.now c.args.pending.now) (standing c.say.new.session c.args.pending.now) c.args.byte _ _ _ c.requires.line
    c.if-byte-ne-LINE_END.false c.in_err-goes_on.ensures)

pub returns : goal.returns
returns g c =
    byte_ends (standing c.args.session.now c.args.pending.now) _ c.args.byte _ _ c.in_ok-goes_on.goes_on c.requires.line c.if-byte-ne-LINE_END.false
    refl c.clear.ensures.items c.in_ok-goes_on.ensures
