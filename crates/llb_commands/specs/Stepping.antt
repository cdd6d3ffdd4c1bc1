-- How a stepping session over the run of a definition ends.
use Rattle.std.specs.Prelude.{◌≡◌, ◌⊎◌, ℕ, List, [], Option, Result, Ok, Err, IfSome, false}
use Rattle.llb_loader.specs.Graph.{Numbered}
use Rattle.llb_loader.specs.LoadResult.{IsGraphIn}
use Rattle.llb_loader.specs.LocalSources.{Local}
use Rattle.llb_board.specs.BoardValue.{opened}
use Rattle.llb_session.specs.Conversation.{Conversation, Converses}
use Rattle.llb_session.specs.declared.request.Looks.TheVariants.{Refused, Allowed}
use Rattle.llb_session.specs.declared.session.Session.{Session}
use Rattle.llb_session.specs.declared.session.Options.{Options}
use Rattle.llb_session.specs.declared.fault.SessionFault.{SessionFault}
use Rattle.llb_session.specs.declared.fault.SessionFault.TheVariants as session
use Rattle.llb_commands.specs.ProgramOutput.{build_of, IsNotRun}
use Rattle.llb_commands.specs.CallStreams.{Io, Stream, IsKept, IsWritten}
use Rattle.llb_commands.specs.Running.{TellsRefusal}
use Rattle.llb_commands.specs.Faults.{TellsWhy, fault_line, program_text}
use Rattle.llb_commands.specs.Sources.{limit, most_reads}
use Rattle.llb_commands.specs.declared.fault.OutputFault.TheVariants as output
use Rattle.llb_commands.specs.declared.fault.ProgramFault.{ProgramFault}
use Rattle.llb_commands.specs.declared.fault.ProgramFault.TheVariants as fault

-- a new session on the board that is opened over a graph, with this number of workers and with caches without instances
abbrev pub begun : Options → List Local → Numbered → ℕ → Session
begun options locals g workers = record { stepper = record { board = opened (build_of locals g) workers []; past = []; breaks = [] }; options = options }

-- a session's conversation, from a new session over a graph to the session `end`; it uses at most `limit` bytes of commands, and at most `most_reads` reads
abbrev pub conversation : Options → List Local → Numbered → ℕ → Session → Stream → Stream → Conversation
conversation options locals graph workers end commands output = record {
  limit = limit;
  reads = most_reads;
  before = begun options locals graph workers;
  after = end;
  commands = commands;
  replies = output;
}

-- The bytes are the definition of a graph. A session over this graph has ended with this result, and its replies are written as `Converses` says.
pub record IsSession (options : Options) (workers : ℕ) (locals : List Local) (commands output : Stream) (result : Result (Unit {0}) SessionFault)
    (bytes : List ℕ) : Type 0 where
  pub graph : Numbered
  pub loaded : IsGraphIn bytes graph
  pub end : Session
  pub talks : Converses (conversation options locals graph workers end commands output) result

-- the fault with which the program ends if a session fails with this fault
abbrev pub session_fault : SessionFault → ProgramFault
session_fault (session.Failed kind) = fault.Read
session_fault (session.Unending interrupted) = fault.Read
session_fault session.Write = fault.Output output.Write
session_fault session.Memory = fault.Memory
session_fault session.TooLong = fault.TooLong

-- Without a fault, a session went on to its end. With a fault, either no session began and nothing is written, or a session ended with this fault.
abbrev pub StepsIn : Options → ℕ → List Local → Option (List ℕ) → Stream → Stream → Result (Unit {0}) ProgramFault → Type 0
StepsIn options workers locals file commands output (Ok u) = IfSome file (IsSession options workers locals commands output (Ok u))
StepsIn options workers locals file commands output (Err e) =
    (IsKept output × TellsRefusal (IsNotRun workers locals) file e)
    ⊎ ((f : SessionFault) × (e ≡ session_fault f) × IfSome file (IsSession options workers locals commands output (Err f)))

-- a session over the graph of these bytes has ended with some fault
abbrev pub IsBroken : Options → ℕ → List Local → Stream → Stream → List ℕ → Type 0
IsBroken options workers locals commands output bytes = (f : SessionFault) × IsSession options workers locals commands output (Err f) bytes

-- the options of a session without looks, whose replies are not ended by an empty line
abbrev pub no_looks : Options
no_looks = record { looks = Refused; ends = false }

-- the options of a session with looks, whose replies are not ended by an empty line
abbrev pub only_looks : Options
only_looks = record { looks = Allowed; ends = false }

-- How `step` ends, with these options. It reads the definition from a file, and the commands from its input. Status 0: the session went on to its end. 2:
-- the bytes are refused, a local tree is missing, or the number of workers is not 1 to 64, and nothing is written but the line with this fault; or there were
-- too many bytes of commands, and a line says so. 3: a device or memory failed; nothing is written, or the replies up to the failure.
abbrev pub Steps : Options → ℕ → List Local → Option (List ℕ) → Io → ℕ → Type 0
Steps options workers locals file io status =
    ((status ≡ 0) × IsKept io.errors × IfSome file (IsSession options workers locals io.input io.output (Ok tt)))
    ⊎ (((status ≡ 2) × ((IsKept io.output × TellsWhy (IsNotRun workers locals) file io.errors)
    ⊎ (IfSome file (IsSession options workers locals io.input io.output (Err session.TooLong))
    × IsWritten io.errors (fault_line (program_text fault.TooLong)))))
    ⊎ ((status ≡ 3) × (IsKept io.output ⊎ IfSome file (IsBroken options workers locals io.input io.output))))
