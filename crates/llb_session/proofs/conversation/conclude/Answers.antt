-- A line that is not empty gets its reply, or ends the session.
use Rattle.std.proofs.Common.{◌<◌, length, subst}
use Rattle.llb_session.specs.ConversationStates.{standing}
use Rattle.llb_session.proofs.ConversationEnds.{last_said, some_left}
use Rattle.llb_session.proofs.conversation.conclude.Goals as goal

pub returns : goal.returns
returns g c =
    let more : 0 < length c.args.pending.now.line.items =
    subst (λ xs. 0 < length xs) c.as_slice.ensures.value (some_left c.as_slice.result.now c.if-is_empty.ensures) in
    last_said (standing c.args.session.now c.args.pending.now) c.say.new.session (g.W.Write.contents c.args.out.now) (g.W.Write.contents c.say.new.out)
    c.in_ok-say.field-0 more c.in_ok-say.ensures
