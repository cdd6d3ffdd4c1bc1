-- A session as a conversation: which lines some bytes spell, the replies to these lines one after another, and how the conversation ends.
use Rattle.std.specs.Prelude.{◌≡◌, ◌≢◌, ◌≤◌, ◌<◌, ◌+◌, ◌⊎◌, ℕ, List, [], ◌∷◌, ◌++◌, length, All, Result, Ok, Err}
use Rattle.std.specs.Io.KnownBytes.{Consumes, IsAtEnd}
use Rattle.std.specs.declared.io.ErrorKind.TheVariants.{Interrupted}
use Rattle.llb_session.specs.declared.session.Session.{Session}
use Rattle.llb_session.specs.declared.fault.SessionFault.{SessionFault}
use Rattle.llb_session.specs.declared.fault.SessionFault.TheVariants.{Failed, Unending, Write, Memory, TooLong}
use Rattle.llb_session.specs.Streams.{Stream, IsWritten}
use Rattle.llb_session.specs.LineReplies.{Replies, Quits}

-- ---- lines

-- a line does not contain a line end (byte 10)
abbrev pub IsLine : List ℕ → Type 0
IsLine line = All (λ b. b ≢ 10) line

-- the bytes of some lines, each followed by a line end
abbrev pub with_line_ends : List (List ℕ) → List ℕ
with_line_ends [] = []
with_line_ends (line ∷ lines) = line ++ 10 ∷ with_line_ends lines

-- the bytes are some lines, each followed by a line end, and then a rest without a line end
pub record Spelled (lines : List (List ℕ)) (rest bytes : List ℕ) : Type 0 where
  pub are : bytes ≡ with_line_ends lines ++ rest
  pub each : All IsLine lines
  pub begun : IsLine rest

-- what follows the last line end, as a list with one line; the empty list if nothing follows
abbrev pub last_line : List ℕ → List (List ℕ)
last_line [] = []
last_line (b ∷ rest) = (b ∷ rest) ∷ []

-- ---- the replies to lines

-- the text is the replies to these lines, whose numbers begin with n; s is the session before the lines, and t the session after the lines
abbrev pub Talks : Session → ℕ → List (List ℕ) → List ℕ → Session → Type 0
Talks s n [] text t = (text ≡ []) × (t ≡ s)
Talks s n (line ∷ lines) text t =
    (said : List ℕ) × (more : List ℕ) × (u : Session) × Replies s n line said u × Talks u (n + 1) lines more t × (text ≡ said ++ more)

-- the state of a conversation: the session, the number of the line that is being read, and the bytes of this line so far
pub record Standing : Type 0 where
  pub session : Session
  pub number : ℕ
  pub line : List ℕ

-- the state before the first byte: line 1 has no bytes so far
abbrev pub opening : Session → Standing
opening s = record { session = s; number = 1; line = [] }

-- The bytes lead from state p to state q. The text is the replies to the lines that end within these bytes. The bytes after the last line end belong to the
-- line that is being read.
pub record Talked (p : Standing) (bytes text : List ℕ) (q : Standing) : Type 0 where
  pub lines : List (List ℕ)
  pub spelled : Spelled lines q.line (p.line ++ bytes)
  pub talks : Talks p.session p.number lines text q.session
  pub count : q.number ≡ p.number + length lines

-- ---- what is written when a conversation ends

-- what is written to `out` is the replies to the lines that end within these bytes, and nothing else; t is the session after these lines
pub record Answered (p : Standing) (bytes : List ℕ) (t : Session) (out : Stream) : Type 0 where
  pub text : List ℕ
  pub at : Standing
  pub talked : Talked p bytes text at
  pub same : t ≡ at.session
  pub printed : IsWritten out text

-- what is written to `out` is the replies to the lines that end within these bytes; the line that is being read ends the session, and has no reply
pub record Quit (p : Standing) (bytes : List ℕ) (t : Session) (out : Stream) : Type 0 where
  pub before : Answered p bytes t out
  pub quits : Quits before.at.session before.at.line

-- what is written to `out` is the replies to the lines that end within these bytes, and then a prefix of the reply to the line that is being read
pub record CutShort (p : Standing) (bytes : List ℕ) (t : Session) (out : Stream) : Type 0 where
  pub text : List ℕ
  pub at : Standing
  pub talked : Talked p bytes text at
  pub said : List ℕ
  pub answers : Replies at.session at.number at.line said t
  pub front : List ℕ
  pub rest : List ℕ
  pub split : said ≡ front ++ rest
  pub printed : IsWritten out (text ++ front)

-- the bytes end with a line end, and P holds for the bytes before this line end
abbrev pub AtLineEnd : List ℕ → (List ℕ → Type 0) → Type 0
AtLineEnd heard P = (before : List ℕ) × (heard ≡ before ++ 10 ∷ []) × P before

-- the replies to all lines of an input are written, also the reply to what follows the last line end, if anything does
pub record Concluded (s : Session) (input : List ℕ) (t : Session) (out : Stream) : Type 0 where
  pub lines : List (List ℕ)
  pub rest : List ℕ
  pub spelled : Spelled lines rest input
  pub text : List ℕ
  pub talks : Talks s 1 (lines ++ last_line rest) text t
  pub printed : IsWritten out text

-- ---- how a conversation ends

-- a conversation: the most bytes of commands that it may use, the most reads that it may make, the session before and after it, and its input and its output
pub record Conversation : Type 0 where
  pub limit : ℕ
  pub reads : ℕ
  pub before : Session
  pub after : Session
  pub commands : Stream
  pub replies : Stream

-- the input has ended, and every byte of it was used
abbrev pub AllHeard : Stream → List ℕ → Type 0
AllHeard commands unheard = (unheard ≡ []) × IsAtEnd commands.after

-- How a conversation ends, given the bytes that it used and the bytes that it read but did not use. What follows the last line end counts as a line if it is
-- not empty. If the bound on reads was met, each read returned at least one byte or was interrupted.
abbrev pub EndsSo : Conversation → List ℕ → List ℕ → Result (Unit {0}) SessionFault → Type 0
EndsSo c heard unheard (Ok u) =
    (AllHeard c.commands unheard × Concluded c.before heard c.after c.replies)
    ⊎ ((AllHeard c.commands unheard × ((q : Quit (opening c.before) heard c.after c.replies) × (0 < length q.before.at.line)))
    ⊎ AtLineEnd heard (λ bytes. Quit (opening c.before) bytes c.after c.replies))
EndsSo c heard unheard (Err Write) =
    (AllHeard c.commands unheard × ((cut : CutShort (opening c.before) heard c.after c.replies) × (0 < length cut.at.line)))
    ⊎ AtLineEnd heard (λ bytes. CutShort (opening c.before) bytes c.after c.replies)
EndsSo c heard unheard (Err (Failed kind)) = (kind ≢ Interrupted) × (unheard ≡ []) × Answered (opening c.before) heard c.after c.replies
EndsSo c heard unheard (Err (Unending interrupted)) =
    (c.reads ≤ length heard + interrupted) × (interrupted ≤ c.reads) × (unheard ≡ []) × Answered (opening c.before) heard c.after c.replies
EndsSo c heard unheard (Err Memory) = Answered (opening c.before) heard c.after c.replies
EndsSo c heard unheard (Err TooLong) = (length heard ≡ c.limit) × (0 < length unheard) × Answered (opening c.before) heard c.after c.replies

-- A conversation reads some bytes and uses a first part of them, of at most `limit` bytes. Without a fault it ends where the input ends, or after a line
-- that ends the session.
pub record Converses (c : Conversation) (result : Result (Unit {0}) SessionFault) : Type 0 where
  pub heard : List ℕ
  pub unheard : List ℕ
  pub taken : Consumes c.commands.before c.commands.after (heard ++ unheard)
  pub few : length heard ≤ c.limit
  pub ends : EndsSo c heard unheard result
