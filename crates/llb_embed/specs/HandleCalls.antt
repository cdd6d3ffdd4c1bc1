-- What each call does to the value in the handle, in terms of the program's commands: how the values before and after the call and the status are related.
use Rattle.std.specs.Prelude.{◌≡◌, ◌+◌, ◌⊎◌, ℕ, List, [], Option, Some, None, Ok, Err, MatchOption, IsUtf8}
use Rattle.llb_tree.specs.Tree.{TreeMap}
use Rattle.llb_loader.specs.Graph.{Numbered}
use Rattle.llb_loader.specs.LoadResult.{IsGraphIn}
use Rattle.llb_loader.specs.LocalSources.{with_local}
use Rattle.llb_stepper.specs.declared.fault.StepperFault.{StepperFault}
use Rattle.llb_session.specs.declared.session.Session.{Session}
use Rattle.llb_session.specs.LineReplies.{Answers, IsRefused, Quits}
use Rattle.llb_session.specs.Request.{request_in}
use Rattle.llb_session.specs.PrintedTexts.{fault_line}
use Rattle.llb_commands.specs.declared.fault.ProgramFault.TheVariants as problem
use Rattle.llb_commands.specs.declared.sources.SourceFault.{SourceFault}
use Rattle.llb_commands.specs.declared.command_line_words.WordsFault.TheVariants.{Words}
use Rattle.llb_commands.specs.CallStreams.{Io, Stream}
use Rattle.llb_commands.specs.ProgramOutput.{Runs, Draws, IsNotRun}
use Rattle.llb_commands.specs.FindingLines.{Lists}
use Rattle.llb_commands.specs.MatchText.{Matches}
use Rattle.llb_commands.specs.PlanText.{Plans}
use Rattle.llb_commands.specs.ScriptLine.{Judges}
use Rattle.llb_commands.specs.Assembly.{Assembles, Describes, Disassembles}
use Rattle.llb_commands.specs.CommandLine.{TellsWords}
use Rattle.llb_commands.specs.Faults.{Tells, TellsWhy}
use Rattle.llb_commands.specs.Sources.{ReadsTree, TellsSource}
use Rattle.llb_commands.specs.Stepping.{begun, only_looks}
use Rattle.llb_embed.specs.declared.handle_value.Held.{Held}

-- a stream that was empty before the call, and to which these bytes are written
abbrev pub written : List ℕ → Stream
written bytes = record { before = Some []; after = Some bytes }

-- the streams of a command: the input has these bytes before the command, and `rest` after it; the command writes the output and the messages of the new value
abbrev pub streams : List ℕ → Option (List ℕ) → Held → Io
streams bytes rest new = record {
  input = record { before = Some bytes; after = rest };
  output = written new.output.items;
  errors = written new.messages.items;
}

-- the local trees and the session are unchanged
abbrev pub KeepsRest : Held → Held → Type 0
KeepsRest old new = (new.locals ≡ old.locals) × (new.session ≡ old.session) × (new.lines ≡ old.lines)

-- ---- whole commands

-- A command that reads these bytes has ended with this status, and the local trees and the session are unchanged.
abbrev pub EndsBy : (Io → ℕ → Type 0) → List ℕ → Held → Held → ℕ → Type 0
EndsBy Ends bytes old new status = KeepsRest old new × ((rest : Option (List ℕ)) × Ends (streams bytes rest new) status)

-- a definition is run on the local trees with one worker, as `llbm run` does
abbrev pub Ran : List ℕ → Held → Held → ℕ → Type 0
Ran definition old new status = EndsBy (Runs 1 old.locals) definition old new status

-- the text of a definition's graph is written, as `llbm show` does
abbrev pub Shown : List ℕ → Held → Held → ℕ → Type 0
Shown = EndsBy Draws

-- a line is written for each fault of a definition, as `llbm show --findings` does
abbrev pub Listed : List ℕ → Held → Held → ℕ → Type 0
Listed = EndsBy Lists

-- a line is written for each vertex of a definition: whether what it reads goes by value, as `llbm show --plan` does
abbrev pub Planned : List ℕ → Held → Held → ℕ → Type 0
Planned = EndsBy Plans

-- a line is written for each vertex of a definition: which vertex of an older definition it matches, as `llbm show --matches` does
abbrev pub Matched : List ℕ → List ℕ → Held → Held → ℕ → Type 0
Matched old = EndsBy (Matches old)

-- the ops of a definition's entries are written, as `llbm show --ops` does
abbrev pub Described : List ℕ → Held → Held → ℕ → Type 0
Described = EndsBy Describes

-- a text is assembled, as `llbm asm` does
abbrev pub Assembled : List ℕ → Held → Held → ℕ → Type 0
Assembled = EndsBy Assembles

-- a definition is disassembled, as `llbm dis` does
abbrev pub Disassembled : List ℕ → Held → Held → ℕ → Type 0
Disassembled = EndsBy Disassembles

-- the text is UTF-8, and the line of its fault as a script is written to the output; or it is not, and the messages say so
abbrev pub Judged : List ℕ → Held → Held → ℕ → Type 0
Judged text old new status = KeepsRest old new × ((IsUtf8 text × Judges text (written new.output.items) (written new.messages.items) status)
    ⊎ ((¬ (IsUtf8 text)) × (new.output.items ≡ []) × TellsWords (Some []) (Some new.messages.items) (Words None) status))

-- ---- local trees

-- no tree is added, and the messages and the status say why: the name is not UTF-8, or the text could not be read as a tree
abbrev pub TellsWhyNot : List ℕ → List ℕ → Held → ℕ → Type 0
TellsWhyNot name text new status =
    ((¬ (IsUtf8 name)) × TellsWords (Some []) (Some new.messages.items) (Words None) status)
    ⊎ ((e : SourceFault) × ReadsTree text (Err e) × TellsSource (Some []) (Some new.messages.items) e status)

-- Status 0: the tree of the text is added under the name. Any other status: the local trees are unchanged, and the messages have a line that says why (if the
-- line could not be written, the status is 3).
abbrev pub Added : List ℕ → List ℕ → Held → Held → ℕ → Type 0
Added name text old new status = (new.session ≡ old.session) × (new.lines ≡ old.lines) × (new.output.items ≡ []) × (
    ((status ≡ 0) × (new.messages.items ≡ []) × ((t : TreeMap) × ReadsTree text (Ok t) × (new.locals ≡ with_local old.locals name t)))
    ⊎ ((new.locals ≡ old.locals) × TellsWhyNot name text new status))

-- ---- sessions

-- a session with looks is begun on the graph of the definition, with the local trees and this number of workers; no line was sent to the session yet
abbrev pub IsBegun : List ℕ → ℕ → Held → Held → Type 0
IsBegun definition workers old new = (g : Numbered) × IsGraphIn definition g × (new.session ≡ Some (begun only_looks old.locals g workers)) × (new.lines ≡ 0)

-- Status 0: a session is begun. 2 or 3: no session is begun, and a session that was open before is unchanged. With status 2 the messages have a line that says
-- why.
abbrev pub Opened : List ℕ → ℕ → Held → Held → ℕ → Type 0
Opened definition workers old new status = (new.locals ≡ old.locals) × (new.output.items ≡ []) × (
    ((status ≡ 0) × (new.messages.items ≡ []) × IsBegun definition workers old new)
    ⊎ ((new.session ≡ old.session) × (new.lines ≡ old.lines)
    × (((status ≡ 2) × TellsWhy (IsNotRun workers old.locals) (Some definition) (written new.messages.items)) ⊎ (status ≡ 3))))

-- line n does not end session s, and the output is the whole reply to the line
abbrev pub GoesOn : List ℕ → Session → ℕ → Held → Type 0
GoesOn line s n new = (t : Session) × (new.session ≡ Some t) × (new.lines ≡ n) × Answers s n line new.output.items t

-- Status 0: the line that reports the refusal is the output, and one more line is counted. Any other status: memory for that line was refused, and the messages
-- say so.
abbrev pub Refused : StepperFault → Held → Held → ℕ → Type 0
Refused fault old new status = (new.locals ≡ old.locals) × (new.session ≡ old.session) × (
    ((status ≡ 0) × (new.lines ≡ old.lines + 1) × (new.output.items ≡ fault_line fault) × (new.messages.items ≡ []))
    ⊎ ((new.lines ≡ old.lines) × (new.output.items ≡ []) × Tells (Some []) (Some new.messages.items) problem.Memory status))

-- A line is sent to session s. Status 0: the output is the line's reply. 1: the line ends the session; no session is open then. 3: the line is refused, and so
-- is the memory for the reply that would report this. 2: the session has already got 2^64 - 1 lines. With 2 and 3 nothing is changed, there is no output, and
-- the messages say why. If the messages can't be written, the status is 3 in both cases.
abbrev pub RepliesOn : List ℕ → Session → Held → Held → ℕ → Type 0
RepliesOn line s old new status =
    ((status ≡ 0) × (new.messages.items ≡ []) × GoesOn line s (old.lines + 1) new)
    ⊎ (((status ≡ 1) × (new.messages.items ≡ []) × (new.output.items ≡ []) × (new.session ≡ None) × (new.lines ≡ old.lines) × Quits s line)
    ⊎ (KeepsRest old new × (new.output.items ≡ [])
    × (((cause : StepperFault) × IsRefused (request_in s.options.looks line) s.stepper (old.lines + 1) cause
    × Tells (Some []) (Some new.messages.items) problem.Memory status)
    ⊎ ((old.lines ≡ 18446744073709551615) × Tells (Some []) (Some new.messages.items) problem.TooLong status))))

-- a line is sent to the session; if no session is open, the status is 4 and nothing is changed
abbrev pub Replied : List ℕ → Held → Held → ℕ → Type 0
Replied line old new status = (new.locals ≡ old.locals) × MatchOption old.session
    ((status ≡ 4) × KeepsRest old new × (new.output.items ≡ []) × (new.messages.items ≡ []))
    (λ s. RepliesOn line s old new status)
