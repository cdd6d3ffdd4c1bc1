-- The reply is written, and the flush after it fails.
use Rattle.std.proofs.Common.{◌+◌, Bool, List, ℕ, Ok, [], sym, subst, append-nil}
use Rattle.std.proofs.KnownBytes.{Appends-kept}
use Rattle.llb_session.specs.LineReplies.{Replies, Says}
use Rattle.llb_session.proofs.Streams.{between}
use Rattle.llb_session.proofs.conversation.say.Goals as goal

pub returns-in-Err-flush : goal.returns-in-Err-flush
returns-in-Err-flush g c =
    let s = c.args.session.now in
    let n = c.args.pending.now.answered + 1 in
    let t = c.answer.new.session in
    let out = between (g.W.Write.contents c.args.out.now) (g.W.Write.contents c.answer.new.out) in
    let said = subst (λ (b : Bool). Says s n c.as_slice.result.now t out (Ok b)) c.in-Ok-true.field-0-test c.in-Ok-true.ensures in
    let answers = subst (λ (line : List ℕ). Replies s n line said.0 t) c.as_slice.ensures.value said.1 in
    (said.0, answers, (said.0, [], sym (append-nil said.0), Appends-kept _ _ _ said.0 said.2 c.in-Err-flush.ensures.bytes))
