-- All that was read so far was heard, and the session goes on; each read returned a byte or was interrupted.
use Rattle.std.proofs.Common.{◌≡◌, ◌≤◌, ◌+◌, length}
use Rattle.llb_session.specs.ConversationStates.{standing}
use Rattle.llb_session.proofs.Streams.{between}
use Rattle.llb_session.proofs.ConversationEnds.{Listened}
use Rattle.llb_session.proofs.conversation.converse.Given as goal

abbrev pub invariant-loop-i : goal.invariant-loop-i
invariant-loop-i g l =
    (length l.buffer ≡ 4096)
    × Listened l.limit l.room l.initial.session (standing l.session l.pending)
    (between (g.R.Read.remaining l.initial.commands) (g.R.Read.remaining l.commands)) (between (g.W.Write.contents l.initial.out) (g.W.Write.contents l.out))
    × (l._i + l.room ≤ l.limit + l.interrupted) × (l.interrupted ≤ l._i)
