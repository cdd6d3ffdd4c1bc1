-- What assembling writes for a text of entries, and what disassembling writes for a definition.
use Rattle.std.specs.Prelude.{◌≡◌, ◌⊎◌, ◌<◌, ℕ, List, length, Ok, Err, Bool, true, false, IfSome}
use Rattle.llb_ops.specs.declared.fault.OpFault.{OpFault}
use Rattle.llb_ops.specs.Definition.{definition_of, definition_bytes}
use Rattle.llb_asm.specs.ItemLines.{kept}
use Rattle.llb_asm.specs.TextGrammar as asm
use Rattle.llb_asm.specs.TextGrammar.{SpellsEntries}
use Rattle.llb_asm.specs.declared.fault.AsmFault.{AsmFault}
use Rattle.llb_asm.specs.declared.fault.AsmFault.TheVariants.{Line, UnknownLabel, Memory, Write}
use Rattle.llb_asm.specs.DisassembledText.{Formed, AreFormed, AreWorded, plain_text}
use Rattle.llb_loader.specs.LocalSources.{Local}
use Rattle.llb_commands.specs.ProgramOutput.{Yields}
use Rattle.llb_ops.specs.declared.fault.OpFault.TheVariants.{OverLimit}
use Rattle.llb_loader.specs.declared.fault.LoadFault.TheVariants.{Definition}
use Rattle.llb_commands.specs.declared.fault.ProgramFault.{ProgramFault}
use Rattle.llb_commands.specs.declared.fault.ProgramFault.TheVariants as fault
use Rattle.llb_commands.specs.Faults.{TellsWhy}
use Rattle.llb_commands.specs.CallStreams.{Io, Stream, IsKept, IsPartWritten, IsWritten}
use Rattle.llb_commands.specs.Sources.{limit}

-- the definition that a text is assembled to: the bytes that `llb_ops` writes for the entries that the text is read as
pub record IsAssembled (text definition : List ℕ) : Type 0 where
  pub entries : List (List ℕ)
  pub stands : SpellsEntries (kept text) entries
  pub same : definition ≡ definition_bytes entries

-- whether a fault of the assembler is the refusal of a line
abbrev pub refuses_a_line : AsmFault → Bool
refuses_a_line (Line n rule) = true
refuses_a_line (UnknownLabel n) = true
refuses_a_line Memory = false
refuses_a_line Write = false

-- the fault is the first fault of the first faulty line of the text
abbrev pub HasFaultyLine : ProgramFault → List ℕ → Type 0
HasFaultyLine p text = (e : AsmFault) × (refuses_a_line e ≡ true) × asm.Assembles text (Err e) × (p ≡ fault.Assembling e)

-- the text can't be assembled, and the fault says why: the text is too long, or one of its lines is refused
abbrev pub IsNoText : ProgramFault → List ℕ → Type 0
IsNoText p text = ((limit < length text) × (p ≡ fault.TooLong)) ⊎ HasFaultyLine p text

-- `text` is what is written for the entries of the definition with these bytes, each in the form that it has by the rule `Are`
pub record IsTextBy (Are : List (List ℕ) → List Formed → Type 0) (definition text : List ℕ) : Type 0 where
  pub entries : List (List ℕ)
  pub read : definition_of definition ≡ Ok entries
  pub forms : List Formed
  pub are : Are entries forms
  pub same : text ≡ plain_text forms

-- the text has the entries that are canonical as ops
abbrev pub IsDisassembled : List ℕ → List ℕ → Type 0
IsDisassembled = IsTextBy AreFormed

-- the text has all entries that can be read as ops
abbrev pub IsDescribed : List ℕ → List ℕ → Type 0
IsDescribed = IsTextBy AreWorded

-- the bytes are no definition, and the fault says why: it is the fault of reading them; or 81 13, if there are more bytes than the program reads
abbrev pub IsUnread : ProgramFault → List ℕ → Type 0
IsUnread p definition = ((e : OpFault) × (definition_of definition ≡ Err e) × (p ≡ fault.Unread e))
    ⊎ ((limit < length definition) × (p ≡ fault.Refused (Definition OverLimit)))

-- what a command makes of its input is written, and nothing else
abbrev pub IsOut : (List ℕ → List ℕ → Type 0) → Stream → List ℕ → Type 0
IsOut Comes output input = (text : List ℕ) × Comes input text × IsWritten output text

-- a prefix of what a command makes of its input is written, and no more
abbrev pub IsPartOut : (List ℕ → List ℕ → Type 0) → Stream → List ℕ → Type 0
IsPartOut Comes output input = (text : List ℕ) × Comes input text × IsPartWritten output text

-- How a command ends that makes a text from its input and writes the text. `Comes` relates the input to the text. Status 0: the whole text is written. 2: the
-- input is refused (`IsRefused`), and only the line that says why is written. 3: a device or memory failed; nothing is written, or a prefix of the text.
abbrev pub Ends : (List ℕ → List ℕ → Type 0) → (ProgramFault → List ℕ → Type 0) → Io → ℕ → Type 0
Ends Comes IsRefused io status =
    ((status ≡ 0) × IsKept io.errors × IfSome io.input.before (IsOut Comes io.output))
    ⊎ (((status ≡ 2) × IsKept io.output × TellsWhy IsRefused io.input.before io.errors)
    ⊎ ((status ≡ 3) × (IsKept io.output ⊎ IfSome io.input.before (IsPartOut Comes io.output))))

-- how assembling ends: it writes the definition of the entries that a text is read as
abbrev pub Assembles : Io → ℕ → Type 0
Assembles = Ends IsAssembled IsNoText

-- how disassembling ends: it writes the text of a definition's entries
abbrev pub Disassembles : Io → ℕ → Type 0
Disassembles = Ends IsDisassembled IsUnread

-- how `show --ops` ends: it writes the ops of a definition's entries
abbrev pub Describes : Io → ℕ → Type 0
Describes = Ends IsDescribed IsUnread

-- Take the definition that a text is assembled to, and any bytes whose entries are the entries of the text. If runs of both by one worker, on the same local
-- trees, yield a text of the result, then they yield the same text.
abbrev pub RunsAlike : List ℕ → List (List ℕ) → List ℕ → Type 0
RunsAlike text entries bytes =
    SpellsEntries (kept text) entries → definition_of bytes ≡ Ok entries → (locals : List Local) (definition one other : List ℕ)
    → IsAssembled text definition → Yields 1 locals definition one → Yields 1 locals bytes other → one ≡ other
