-- The bytes so far were heard, and the session goes on.
use Rattle.std.proofs.Common.{take}
use Rattle.llb_session.specs.ConversationStates.{standing, Went}
use Rattle.llb_session.proofs.Streams.{between}
use Rattle.llb_session.proofs.conversation.hear_all.Given as goal

abbrev pub invariant-loop-byte : goal.invariant-loop-byte
invariant-loop-byte g l =
    Went (standing l.initial.session l.initial.pending) (take l.byte-index l.bytes) (standing l.session l.pending)
    (between (g.W.Write.contents l.initial.out) (g.W.Write.contents l.out))
