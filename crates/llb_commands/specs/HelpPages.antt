-- The page of help or of the version, which words may ask for. `clap` reports such words as refused, so the page follows the line of the refusal.
use Rattle.std.specs.Prelude.{◌≡◌, ◌⊎◌, ℕ, if◌then◌else◌, List, [], ◌∷◌, ◌++◌, codes, Option, Some, None, Result, Ok, Err}
use Rattle.std.specs.Io.KnownBytes.{Appends}
use Rattle.std.specs.Str.{bytes_eq}
use Rattle.clap.specs.Words.{IsAmong, Kinds, Text}
use Rattle.clap.specs.declared.error.kind.ErrorKind.{ErrorKind}
use Rattle.clap.specs.declared.error.kind.ErrorKind.TheVariants.{DisplayHelp, DisplayVersion}
use Rattle.llb_commands.specs.CommandLine.{Refuses, words_status, words_text}
use Rattle.llb_commands.specs.Faults.{fault_line}
use Rattle.llb_commands.specs.declared.help_pages.TheConstants.{VERSION_PAGE, PROGRAM_PAGE, RUN_PAGE, SHOW_PAGE, STEP_PAGE, ASM_PAGE, DIS_PAGE}
use Rattle.llb_commands.specs.declared.command_line_words.Command.{Command}
use Rattle.llb_commands.specs.declared.command_line_words.Command.TheVariants.{Run, Show, Step, Assemble, Disassemble}
use Rattle.llb_commands.specs.declared.command_line_words.Line.{Line}
use Rattle.llb_commands.specs.declared.command_line_words.Refusal.{Refusal}
use Rattle.llb_commands.specs.declared.command_line_words.WordsFault.{WordsFault}
use Rattle.llb_commands.specs.declared.command_line_words.WordsFault.TheVariants.{Words}

-- the command with this name; none if no command has the name
abbrev pub command_named : Text → Option Command
command_named name =
    if bytes_eq name (codes "run") then Some Run
    else if bytes_eq name (codes "show") then Some Show
    else if bytes_eq name (codes "step") then Some Step
    else if bytes_eq name (codes "asm") then Some Assemble
    else if bytes_eq name (codes "dis") then Some Disassemble else None

-- the command that the first word names; none if there is no word, or if the first word names no command
abbrev pub named_first : List Text → Option Command
named_first [] = None
named_first (w ∷ ws) = command_named w

-- the help page of a command, or of the program if there is no command
abbrev pub help_page : Option Command → Text
help_page None = PROGRAM_PAGE.now
help_page (Some Run) = RUN_PAGE.now
help_page (Some Show) = SHOW_PAGE.now
help_page (Some Step) = STEP_PAGE.now
help_page (Some Assemble) = ASM_PAGE.now
help_page (Some Disassemble) = DIS_PAGE.now

-- the page for a kind of refusal by `clap`: the page of help or of the version if the words ask for it, else the empty text
abbrev pub page_for : ErrorKind → Option Command → Text
page_for DisplayHelp command = help_page command
page_for DisplayVersion command = VERSION_PAGE.now
page_for _ command = []

-- the page that follows the line of a fault: if `clap` refuses the words, the page for one of the kinds of refusal that `clap` may return; else an empty text
abbrev pub HasPage : Kinds → List Text → WordsFault → Text → Type 0
HasPage kinds words (Words None) page = (k : ErrorKind) × IsAmong k kinds × (page ≡ page_for k (named_first words))
HasPage kinds words _ page = page ≡ []

-- what the result of reading the words says: a `Line`, that `clap` accepts the words; a `Refusal`, that `Refuses` and `HasPage` hold of its fault and its page
abbrev pub IsByWordsWithPage : Kinds → List Text → List Text → Result Line Refusal → Type 0
IsByWordsWithPage kinds locals words (Ok line) = kinds ≡ []
IsByWordsWithPage kinds locals words (Err r) = Refuses kinds locals r.fault × HasPage kinds words r.fault r.page.now

-- the line of the fault and the page below it are written, and the status is the fault's; or they could not be written, and the status is 3
abbrev pub TellsWithPage : Option (List ℕ) → Option (List ℕ) → WordsFault → Text → ℕ → Type 0
TellsWithPage err err' fault page status =
    ((status ≡ words_status fault) × Appends err err' (fault_line (words_text fault) ++ page)) ⊎ (status ≡ 3)
