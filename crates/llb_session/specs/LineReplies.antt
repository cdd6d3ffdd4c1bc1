-- The reply to each line of a session, and the session after the line.
use Rattle.std.specs.Prelude.{◌≡◌, ◌≢◌, ◌⊎◌, ◌-◌, ◌++◌, ◌∷◌, ℕ, Bool, true, false, if◌then◌else◌, List, [], length, codes, Option, Some, None}
use Rattle.std.specs.Prelude.{Result, Ok, Err, Vec, option_map, slice_get}
use Rattle.std.specs.Global.{Global}
use Rattle.llb_wire.specs.declared.sink.Failed.{Failed}
use Rattle.llb_model.specs.State.{Execution, ending_at, runs}
use Rattle.llb_model.specs.Outcome.{output_in}
use Rattle.llb_model.specs.Run.{chosen}
use Rattle.llb_events.specs.declared.event.Event.{Event}
use Rattle.llb_board.specs.WorkedOnAndCachedTrees.{worked_on, cached_at}
use Rattle.llb_stepper.specs.declared.stop.Stop.{Stop}
use Rattle.llb_stepper.specs.declared.fault.StepperFault.{StepperFault}
use Rattle.llb_stepper.specs.declared.fault.StepperFault.TheVariants.{NothingBefore, BadCommand, Memory}
use Rattle.llb_stepper.specs.StepperResults.{done_of, may_want, stepper_memory}
use Rattle.llb_stepper.specs.Stepping.{Stepping, GoesBack, IsGo}
use Rattle.llb_session.specs.declared.session.Session.{Session}
use Rattle.llb_session.specs.declared.request.Look.{Look}
use Rattle.llb_session.specs.declared.request.Look.TheVariants as look
use Rattle.llb_session.specs.declared.request.Request.{Request}
use Rattle.llb_session.specs.declared.request.Request.TheVariants as ask
use Rattle.llb_session.specs.GraphText.{graph_text, digest_lines}
use Rattle.llb_session.specs.Request.{request_in}
use Rattle.llb_session.specs.ReasonLines.{why_at}
use Rattle.llb_session.specs.Streams.{Stream, IsKept, IsWritten, IsPartWritten}
use Rattle.llb_session.specs.PrintedTexts.{status_lines, record_line, record_lines, tree_lines, work_lines, key_lines, fault_line, back_line}

-- ---- a request that is granted: what it prints, and the stepper after it

-- the event is done, and the line that it adds to the record is printed
abbrev pub GrantsEvent : Event → Stepping → List ℕ → Stepping → Type 0
GrantsEvent e s text t = (done_of s e ≡ Ok t) × (text ≡ record_line t (length t.board.events))

-- the chosen event (the event that `chosen` of llb_model returns) is done as `GrantsEvent` says; if there is none, `end` is printed
abbrev pub GrantsNext : Option Event → Stepping → List ℕ → Stepping → Type 0
GrantsNext None s text t = (t ≡ s) × (text ≡ codes "end\n")
GrantsNext (Some e) s text t = GrantsEvent e s text t

-- the last line that a `go` prints: `stop` if its last event met a breakpoint, and `end` if there was no further event to do
abbrev pub stop_line : Bool → List ℕ
stop_line at_break = if at_break then codes "stop\n" else codes "end\n"

-- a granted `go` changes stepper s to stepper t, and prints the lines of the events that the `go` did, and then the line `stop` or `end`
pub record GrantsGo (s : Stepping) (text : List ℕ) (t : Stepping) : Type 0 where
  pub stop : Stop
  pub goes : IsGo s t stop
  pub lines : text ≡ record_lines t (length s.board.events) (length t.board.events - length s.board.events) ++ stop_line stop.at_break

-- what a look at stepper s prints
abbrev pub look_lines : Look → Stepping → List ℕ
look_lines (look.Work w) s = work_lines (option_map (λ (x : Execution). x.own) (runs (slice_get s.board.state.workers w)))
look_lines (look.WorkTree w i) s = tree_lines (worked_on s.board.state w i)
look_lines look.Caches s = key_lines s.board.rows (length s.board.rows)
look_lines (look.Cache k i) s = tree_lines (cached_at s.board.rows s.board.state.store k i)
look_lines (look.Why w k) s = why_at s.board.build s.board.state w k
look_lines look.Graph s = graph_text s.board.build.graph
look_lines look.Digests s = digest_lines s.board.build.graph.vertices

-- the request is granted on stepper s and prints the text; t is the stepper after the request
abbrev pub Grants : Request → Stepping → List ℕ → Stepping → Type 0
Grants (ask.Break b) s text t = (t ≡ record s { breaks = s.breaks ++ b ∷ [] }) × (text ≡ [])
Grants ask.Clear s text t = (t ≡ record s { breaks = [] }) × (text ≡ [])
Grants (ask.Event e) s text t = GrantsEvent e s text t
Grants ask.Next s text t = GrantsNext (chosen s.board.build s.board.state) s text t
Grants ask.Go s text t = GrantsGo s text t
Grants ask.Back s text t = GoesBack s t × (text ≡ back_line (length t.board.events))
Grants ask.Status s text t = (t ≡ s) × (text ≡ status_lines s.board (length s.board.build.graph.vertices))
Grants (ask.Tree v i) s text t = (t ≡ s) × (text ≡ tree_lines (output_in (ending_at s.board.state.statuses v) i))
Grants (ask.Look l) s text t = (t ≡ s) × (text ≡ look_lines l s)
Grants ask.Quit s text t = (t ≡ s) × (text ≡ [])

-- ---- a request that is refused, but not for want of memory

-- the request is refused with this fault, for another cause than want of memory; only an event and `back` can be refused so
abbrev pub Refuses : Request → Stepping → StepperFault → Type 0
Refuses (ask.Event e) s fault = done_of s e ≡ Err fault
Refuses ask.Back s fault = (s.past ≡ []) × (fault ≡ NothingBefore)
Refuses (ask.Break b) s fault = ⊥
Refuses ask.Clear s fault = ⊥
Refuses ask.Next s fault = ⊥
Refuses ask.Go s fault = ⊥
Refuses ask.Status s fault = ⊥
Refuses (ask.Tree v i) s fault = ⊥
Refuses (ask.Look l) s fault = ⊥
Refuses ask.Quit s fault = ⊥

-- The request may fail with this fault if memory is refused. `clear` and `quit` never fail for want of memory. An event, `next` and `go` may fail with the
-- board's `Memory` (171 141) or the stepper's (174), but an event only if the board grants it, or refuses it with 135 and has to copy the held key; `back` may
-- fail with 174 if there is an event to take back; every other request may fail with 174 alone.
abbrev pub Wants : Request → Stepping → StepperFault → Type 0
Wants ask.Clear s fault = ⊥
Wants ask.Quit s fault = ⊥
Wants (ask.Event e) s fault = (stepper_memory fault ≡ true) × (may_want s e ≡ true)
Wants ask.Next s fault = stepper_memory fault ≡ true
Wants ask.Go s fault = stepper_memory fault ≡ true
Wants (ask.Break b) s fault = fault ≡ Memory
Wants ask.Back s fault = (fault ≡ Memory) × (s.past ≢ [])
Wants ask.Status s fault = fault ≡ Memory
Wants (ask.Tree v i) s fault = fault ≡ Memory
Wants (ask.Look l) s fault = fault ≡ Memory

-- a request fails with this fault: for want of memory, as `Wants` says, or for another cause, as `Refuses` says
abbrev pub FailsWith : Request → Stepping → StepperFault → Type 0
FailsWith r s fault = (stepper_memory fault ≡ true → Wants r s fault) × (stepper_memory fault ≡ false → Refuses r s fault)

-- the result of a request: it is granted, or it fails and the stepper is unchanged
abbrev pub IsPerformed : Request → Stepping → Stepping → Result (Vec ℕ Global) StepperFault → Type 0
IsPerformed r s t (Ok text) = Grants r s text.items t
IsPerformed r s t (Err fault) = (t ≡ s) × FailsWith r s fault

-- ---- a line

-- the line asks for something that is granted on stepper s and prints the text; t is the stepper after the line
abbrev pub IsGranted : Option Request → Stepping → List ℕ → Stepping → Type 0
IsGranted None s text t = ⊥
IsGranted (Some r) s text t = Grants r s text t

-- line n is refused with this fault: a line that is no request with 173 and n, and a request as `FailsWith` says
abbrev pub IsRefused : Option Request → Stepping → ℕ → StepperFault → Type 0
IsRefused None s n fault = fault ≡ BadCommand n
IsRefused (Some r) s n fault = FailsWith r s fault

-- the result of what line n asks for: the text that is printed, or why the line is refused; if it is refused, the stepper is unchanged
abbrev pub RespondsAs : Option Request → Stepping → ℕ → Stepping → Result (Vec ℕ Global) StepperFault → Type 0
RespondsAs o s n t (Ok text) = IsGranted o s text.items t
RespondsAs o s n t (Err fault) = IsRefused o s n fault × (t ≡ s)

-- line n is refused: the line that reports the refusal is printed, and the stepper is unchanged
pub record PrintsRefusal (o : Option Request) (s : Stepping) (n : ℕ) (text : List ℕ) (t : Stepping) : Type 0 where
  pub fault : StepperFault
  pub refused : IsRefused o s n fault
  pub printed : text ≡ fault_line fault
  pub same : t ≡ s

-- the reply to line n: if it is granted, the text that `Grants` has; if it is refused, the line that reports the refusal
abbrev pub AnswersAs : Option Request → Stepping → ℕ → List ℕ → Stepping → Type 0
AnswersAs o s n text t = IsGranted o s text t ⊎ PrintsRefusal o s n text t

-- the line ends session s
abbrev pub Quits : Session → List ℕ → Type 0
Quits s line = request_in s.options.looks line ≡ Some ask.Quit

-- The result of line n of session s, and the session t after the line: the text that is printed; none if the line ends the session; or why it is refused.
abbrev pub Responds : Session → ℕ → List ℕ → Session → Result (Option (Vec ℕ Global)) StepperFault → Type 0
Responds s n line t (Ok (Some text)) =
    (¬ Quits s line) × IsGranted (request_in s.options.looks line) s.stepper text.items t.stepper × (t.options ≡ s.options)
Responds s n line t (Ok None) = Quits s line × (t ≡ s)
Responds s n line t (Err fault) = (¬ Quits s line) × IsRefused (request_in s.options.looks line) s.stepper n fault × (t ≡ s)

-- line n of session s, counted from 1, does not end the session; the text is the reply to the line, and t is the session after the line
pub record Answers (s : Session) (n : ℕ) (line text : List ℕ) (t : Session) : Type 0 where
  pub goes_on : ¬ Quits s line
  pub answers : AnswersAs (request_in s.options.looks line) s.stepper n text t.stepper
  pub options : t.options ≡ s.options

-- the line that follows each reply: an empty line, if replies are ended so; else none
abbrev pub end_line : Bool → List ℕ
end_line ends = if ends then codes "\n" else []

-- the text is what is written for line n of session s, and t is the session after the line: the reply to the line, and the line that follows each reply
pub record Replies (s : Session) (n : ℕ) (line text : List ℕ) (t : Session) : Type 0 where
  pub said : List ℕ
  pub answers : Answers s n line said t
  pub ended : text ≡ said ++ end_line s.options.ends

-- the text is written; or the writer failed and a prefix of the text is written
abbrev pub IsTextWritten : List ℕ → Stream → Result (Unit {0}) Failed → Type 0
IsTextWritten text out (Ok u) = IsWritten out text
IsTextWritten text out (Err e) = IsPartWritten out text

-- the reply is written, and the session goes on; or the writer failed and a prefix of the reply is written
abbrev pub IsReplyWritten : List ℕ → Stream → Result Bool Failed → Type 0
IsReplyWritten bytes out (Ok true) = IsWritten out bytes
IsReplyWritten bytes out (Ok false) = ⊥
IsReplyWritten bytes out (Err e) = IsPartWritten out bytes

-- what is written for a line: the reply and the line that follows it, a prefix of both if the writer failed, or nothing if the line ends the session
abbrev pub Says : Session → ℕ → List ℕ → Session → Stream → Result Bool Failed → Type 0
Says s n line t out (Ok true) = (text : List ℕ) × Replies s n line text t × IsWritten out text
Says s n line t out (Ok false) = Quits s line × (t ≡ s) × IsKept out
Says s n line t out (Err e) = (text : List ℕ) × Replies s n line text t × IsPartWritten out text
