-- How each command ends, and how the program ends.
use Rattle.std.specs.Prelude.{◌≡◌, ◌⊎◌, ℕ, List, [], Option, Some, None, Ok, Err, IfSome}
use Rattle.std.specs.Borrow.{Bor}
use Rattle.clap.specs.Words.{Text, fault_of, subcommand_of}
use Rattle.llb_tree.specs.Tree.{TreeMap}
use Rattle.llb_loader.specs.LocalSources.{Local}
use Rattle.llb_session.specs.declared.session.Options.{Options}
use Rattle.llb_commands.specs.ProgramOutput.{Runs, Draws}
use Rattle.llb_commands.specs.Running.{TellsRefusal}
use Rattle.llb_commands.specs.Faults.{Tells}
use Rattle.llb_commands.specs.declared.fault.ProgramFault.{ProgramFault}
use Rattle.llb_commands.specs.Assembly.{Assembles, Describes, Disassembles}
use Rattle.llb_commands.specs.CommandLine.{llbm_app, named_local_words, IsByWords, Says, TellsWords}
use Rattle.llb_commands.specs.CallStreams.{Io, IsKept}
use Rattle.llb_commands.specs.FindingLines.{Lists}
use Rattle.llb_commands.specs.AgreementText as agreement
use Rattle.llb_commands.specs.MatchText as matching
use Rattle.llb_commands.specs.PlanText.{Plans}
use Rattle.llb_commands.specs.HelpPages.{HasPage, TellsWithPage}
use Rattle.llb_commands.specs.Sources.{Gathers, Reads, TellsSource}
use Rattle.llb_commands.specs.Stepping.{Steps}
use Rattle.llb_commands.specs.declared.sources.SourceFault.{SourceFault}
use Rattle.llb_commands.specs.declared.command_line_words.Command.{Command}
use Rattle.llb_commands.specs.declared.command_line_words.Command.TheVariants.{Run, Show, Step, Assemble, Disassemble}
use Rattle.llb_commands.specs.declared.command_line_words.Line.{Line}
use Rattle.llb_commands.specs.declared.command_line_words.Shows.{Shows}
use Rattle.llb_commands.specs.declared.command_line_words.Shows.TheVariants.{Graph, Findings, Plan, Matches, Ops, Agrees}
use Rattle.llb_commands.specs.declared.command_line_words.WordsFault.{WordsFault}
use Rattle.llb_commands.specs.declared.command_line_words.WordsFault.TheVariants.{Words}

-- the bytes of each file, by the file's name, if they are known
abbrev pub Shelf : Type 0
Shelf = List ℕ → Option (List ℕ)

-- the words are refused: nothing is written to the output, the line `fault 183` is written to standard error, and the status is 2 (3 if the line could not be
-- written)
abbrev pub IsNotAsked : Io → ℕ → Type 0
IsNotAsked io status = IsKept io.output × TellsWords io.errors.before io.errors.after (Words None) status

-- How `step` ends. If the command line names a file, it ends as `Steps` says. If the command line names no file, nothing is written to the output, the line
-- `fault 183` is written to standard error, and the status is 2 (3 if the line could not be written).
abbrev pub StepsAt : Shelf → Option (Bor (List ℕ)) → Options → ℕ → List Local → Io → ℕ → Type 0
StepsAt files None options workers locals io status = IsNotAsked io status
StepsAt files (Some file) options workers locals io status = Steps options workers locals (files file.now) io status

-- How `show --matches` ends, with the bytes of the file of the older definition, if they are known. Either these are read, and it ends as `Matches` says. Or
-- the file could not be read, or is too long, and the line that says why is written.
abbrev pub MatchesWith : Option (List ℕ) → Io → ℕ → Type 0
MatchesWith file io status =
    ((old : List ℕ) × IfSome file (λ bytes. old ≡ bytes) × matching.Matches old io status)
    ⊎ (IsKept io.output × ((e : ProgramFault) × TellsRefusal matching.IsOverLimit file e × Tells io.errors.before io.errors.after e status))

-- How `show --agrees` ends on these trees of local sources, with the bytes of the file of the newer tree, if they are known. Either these are read as a tree,
-- and it ends as `Agrees` says. Or the file can't be read as a tree, and the line that says why is written.
abbrev pub AgreesWith : Option (List ℕ) → List Local → Io → ℕ → Type 0
AgreesWith file ls io status =
    ((u : TreeMap) × Reads file (Ok u) × agreement.Agrees ls u io status)
    ⊎ (IsKept io.output × ((e : SourceFault) × Reads file (Err e) × TellsSource io.errors.before io.errors.after e status))

-- how `show` ends, by what it prints, by the file that the words name and by the trees of local sources
abbrev pub ShowsAs : Shelf → Shows → Option (Bor (List ℕ)) → List Local → Io → ℕ → Type 0
ShowsAs files Graph file locals io status = Draws io status
ShowsAs files Findings file locals io status = Lists io status
ShowsAs files Plan file locals io status = Plans io status
ShowsAs files Matches (Some file) locals io status = MatchesWith (files file.now) io status
ShowsAs files Ops file locals io status = Describes io status
ShowsAs files Agrees (Some file) locals io status = AgreesWith (files file.now) locals io status
ShowsAs files _ file locals io status = IsNotAsked io status

-- how a command ends, with the workers, the options of a session, what `show` prints and the file that the words name
abbrev pub PerformsAs : Shelf → Command → Line → List Local → Io → ℕ → Type 0
PerformsAs files Run line locals io = Runs line.workers locals io
PerformsAs files Show line locals io = ShowsAs files line.shows line.file locals io
PerformsAs files Step line locals io = StepsAt files line.file (record { looks = line.looks; ends = line.ends }) line.workers locals io
PerformsAs files Assemble line locals io = Assembles io
PerformsAs files Disassemble line locals io = Disassembles io

-- the command that the words ask for (in `line`) has ended on these local trees with this status
abbrev pub Performs : Shelf → Line → List Local → Io → ℕ → Type 0
Performs files line = PerformsAs files line.command line

-- The words of the command line are refused: the line of the fault is written, and below it the page of text that the words ask for, if any.
pub record IsRefusedByWords (words : List Text) (io : Io) (status : ℕ) : Type 0 where
  pub fault : WordsFault
  pub page : Text
  pub refused : IsByWords (fault_of llbm_app words) (named_local_words (subcommand_of llbm_app words)) (Err fault)
  pub asked : HasPage (fault_of llbm_app words) words fault page
  pub none : IsKept io.output
  pub told : TellsWithPage io.errors.before io.errors.after fault page status

-- The words name a local source that has no tree: the line that says why is written.
pub record LacksSource (files : Shelf) (line : Line) (io : Io) (status : ℕ) : Type 0 where
  pub fault : SourceFault
  pub gathered : Gathers files line.locals [] (Err fault)
  pub none : IsKept io.output
  pub told : TellsSource io.errors.before io.errors.after fault status

-- All local sources have their trees, and the command has ended on these trees with this status.
pub record IsDone (files : Shelf) (line : Line) (io : Io) (status : ℕ) : Type 0 where
  pub locals : List Local
  pub gathered : Gathers files line.locals [] (Ok locals)
  pub done : Performs files line locals io status

-- The words ask for a command: either the command has ended, or one of its local sources has no tree.
pub record IsAsked (files : Shelf) (words : List Text) (io : Io) (status : ℕ) : Type 0 where
  pub line : Line
  pub taken : IsByWords (fault_of llbm_app words) (named_local_words (subcommand_of llbm_app words)) (Ok line)
  pub says : Says (subcommand_of llbm_app words) line
  pub does : LacksSource files line io status ⊎ IsDone files line io status

-- how the whole program ends: the words are refused; or a local source has no tree; or the command that the words ask for has ended
abbrev pub IsProgram : Shelf → List Text → Io → ℕ → Type 0
IsProgram files words io status = IsRefusedByWords words io status ⊎ IsAsked files words io status
