-- What a fault of the program prints, and the status with which the program then ends.
use Rattle.std.specs.Prelude.{◌≡◌, ◌⊎◌, ℕ, List, ◌++◌, Option, codes, IfSome}
use Rattle.std.specs.Io.KnownBytes.{Appends}
use Rattle.llb_ops.specs.Faults.{op_text}
use Rattle.llb_asm.specs.Faults.{asm_text}
use Rattle.llb_treetext.specs.CallResults.{reading_text, printing_text}
use Rattle.llb_loader.specs.Faults.{load_text}
use Rattle.llb_work.specs.Faults.{run_text}
use Rattle.llb_commands.specs.CallStreams.{Stream, IsWritten}
use Rattle.llb_commands.specs.declared.fault.OutputFault.{OutputFault}
use Rattle.llb_commands.specs.declared.fault.OutputFault.TheVariants as output
use Rattle.llb_commands.specs.declared.fault.ProgramFault.{ProgramFault}
use Rattle.llb_commands.specs.declared.fault.ProgramFault.TheVariants as fault
use Rattle.llb_commands.specs.declared.sources.SourceFault.{SourceFault}
use Rattle.llb_commands.specs.declared.sources.SourceFault.TheVariants as source

-- the text of a fault of writing the output
abbrev pub output_text : OutputFault → List ℕ
output_text output.Write = codes "182"
output_text output.Memory = codes "184"

-- the text of a fault of the program: the number and the arguments that follow the word `fault`
abbrev pub program_text : ProgramFault → List ℕ
program_text (fault.Refused f) = load_text f
program_text fault.Loading = codes "91"
program_text (fault.MissingLocal name) = codes "121 " ++ name
program_text fault.Workers = codes "122"
program_text fault.Opening = codes "123"
program_text (fault.Run f) = run_text f
program_text (fault.Print f) = printing_text f
program_text (fault.Output f) = output_text f
program_text (fault.Unread f) = op_text f
program_text fault.Entries = codes "14"
program_text (fault.Assembling f) = asm_text f
program_text (fault.Text f) = asm_text f
program_text fault.TooLong = codes "185"
program_text fault.Read = codes "181"
program_text fault.Memory = codes "184"

-- the text of a fault of reading a local source
abbrev pub source_text : SourceFault → List ℕ
source_text source.Read = codes "181"
source_text source.TooLong = codes "185"
source_text (source.Text f) = reading_text f
source_text source.Reading = codes "184"
source_text source.Adding = codes "92"

-- the line that reports a fault, given the text of the fault
abbrev pub fault_line : List ℕ → List ℕ
fault_line text = codes "fault " ++ (text ++ codes "\n")

-- the exit status for a fault of the program: 2 for a refusal (`IsRefusal`), else 3
abbrev pub status_of : ProgramFault → ℕ
status_of (fault.Refused f) = 2
status_of (fault.MissingLocal name) = 2
status_of fault.Workers = 2
status_of (fault.Unread f) = 2
status_of (fault.Assembling f) = 2
status_of fault.TooLong = 2
status_of _ = 3

-- the line of a fault with this text is written, and the status is `of_fault`; or the line could not be written, and the status is 3
abbrev pub TellsLine : Option (List ℕ) → Option (List ℕ) → List ℕ → ℕ → ℕ → Type 0
TellsLine err err' text of_fault status = ((status ≡ of_fault) × Appends err err' (fault_line text)) ⊎ (status ≡ 3)

-- the line of a fault of the program is written to standard error, and the status is the fault's; or the line could not be written, and the status is 3
abbrev pub Tells : Option (List ℕ) → Option (List ℕ) → ProgramFault → ℕ → Type 0
Tells err err' e = TellsLine err err' (program_text e) (status_of e)

-- the input is refused, and the line that says why is written
abbrev pub TellsWhy : (ProgramFault → List ℕ → Type 0) → Option (List ℕ) → Stream → Type 0
TellsWhy IsRefused input errors = (e : ProgramFault) × IfSome input (IsRefused e) × IsWritten errors (fault_line (program_text e))
