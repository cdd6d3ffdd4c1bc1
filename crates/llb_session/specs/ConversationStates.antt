-- How a conversation uses the bytes that it has read, one by one. Each byte leads from one state of the conversation to the next.
use Rattle.std.specs.Prelude.{◌≡◌, ◌+◌, ◌<◌, length, ◌⊎◌, ℕ, Bool, true, false, List, [], ◌++◌, Result, Ok, Err}
use Rattle.llb_session.specs.declared.session.Session.{Session}
use Rattle.llb_session.specs.declared.conversation.Pending.{Pending}
use Rattle.llb_session.specs.declared.fault.SessionFault.{SessionFault}
use Rattle.llb_session.specs.declared.fault.SessionFault.TheVariants.{Failed, Unending, Write, Memory, TooLong}
use Rattle.llb_session.specs.LineReplies.{Replies, Quits}
use Rattle.llb_session.specs.Streams.{Stream, IsKept, IsWritten, IsPartWritten}
use Rattle.llb_session.specs.Conversation.{Talks, Talked, Standing, Answered, Quit, CutShort, AtLineEnd, last_line}

-- the state of a conversation, made from its session and from what the code keeps: how many lines got a reply, and the bytes of the next line so far
abbrev pub standing : Session → Pending → Standing
standing s p = record { session = s; number = p.answered + 1; line = p.line.items }

-- what is written once the line that p has begun is complete: the reply; nothing if the line ends the session; with the fault `Write` a prefix of the reply
abbrev pub IsSaid : Standing → Session → Stream → Result Bool SessionFault → Type 0
IsSaid p t out (Ok true) = (text : List ℕ) × Replies p.session p.number p.line text t × IsWritten out text
IsSaid p t out (Ok false) = Quits p.session p.line × (t ≡ p.session) × IsKept out
IsSaid p t out (Err Write) = (text : List ℕ) × Replies p.session p.number p.line text t × IsPartWritten out text
IsSaid p t out (Err (Failed kind)) = ⊥
IsSaid p t out (Err (Unending interrupted)) = ⊥
IsSaid p t out (Err Memory) = ⊥
IsSaid p t out (Err TooLong) = ⊥

-- what is written at the end of the input for a last line without a line end: its reply (with the fault `Write` a prefix); nothing if it is empty or `quit`
abbrev pub IsLast : Standing → Session → Stream → Result (Unit {0}) SessionFault → Type 0
IsLast p t out (Ok u) =
    ((text : List ℕ) × Talks p.session p.number (last_line p.line) text t × IsWritten out text)
    ⊎ ((0 < length p.line) × Quits p.session p.line × (t ≡ p.session) × IsKept out)
IsLast p t out (Err Write) = (0 < length p.line) × ((text : List ℕ) × Replies p.session p.number p.line text t × IsPartWritten out text)
IsLast p t out (Err (Failed kind)) = ⊥
IsLast p t out (Err (Unending interrupted)) = ⊥
IsLast p t out (Err Memory) = ⊥
IsLast p t out (Err TooLong) = ⊥

-- the bytes lead from state p to state q, and the replies to the lines that end within these bytes are written
pub record Went (p : Standing) (bytes : List ℕ) (q : Standing) (out : Stream) : Type 0 where
  pub text : List ℕ
  pub talked : Talked p bytes text q
  pub printed : IsWritten out text

-- what is written to `out` for this result, after the bytes `heard` were used; the bytes `unheard` after these were not used, and for true there are none
abbrev pub IsHeard : Standing → List ℕ → List ℕ → Standing → Stream → Result Bool SessionFault → Type 0
IsHeard p heard unheard q out (Ok true) = (unheard ≡ []) × Went p heard q out
IsHeard p heard unheard q out (Ok false) = AtLineEnd heard (λ bytes. Quit p bytes q.session out)
IsHeard p heard unheard q out (Err Write) = AtLineEnd heard (λ bytes. CutShort p bytes q.session out)
IsHeard p heard unheard q out (Err Memory) = Answered p heard q.session out
IsHeard p heard unheard q out (Err (Failed kind)) = ⊥
IsHeard p heard unheard q out (Err (Unending interrupted)) = ⊥
IsHeard p heard unheard q out (Err TooLong) = ⊥

-- the session uses the bytes from the first one on, as `IsHeard` says; if it ends or fails before the last byte, the later bytes remain unused
pub record Hears (p : Standing) (bytes : List ℕ) (q : Standing) (out : Stream) (result : Result Bool SessionFault) : Type 0 where
  pub heard : List ℕ
  pub unheard : List ℕ
  pub split : bytes ≡ heard ++ unheard
  pub comes : IsHeard p heard unheard q out result
