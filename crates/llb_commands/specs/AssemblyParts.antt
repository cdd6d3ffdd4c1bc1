-- The steps of assembling and disassembling, and what the result of each step says of the input.
use Rattle.std.specs.Prelude.{◌≡◌, ◌⊎◌, ℕ, List, Option, Result, Ok, Err, IfSome, if◌then◌else◌}
use Rattle.llb_ops.specs.declared.fault.OpFault.{OpFault}
use Rattle.llb_ops.specs.Faults as ops
use Rattle.llb_ops.specs.Definition.{definition_of}
use Rattle.llb_asm.specs.DisassembledText.{Formed, AreFormed, AreWorded}
use Rattle.llb_asm.specs.declared.fault.AsmFault.{AsmFault}
use Rattle.llb_asm.specs.declared.fault.AsmFault.TheVariants as asm
use Rattle.llb_commands.specs.declared.bounded_reading.ReadFault.{ReadFault}
use Rattle.llb_commands.specs.declared.bounded_reading.ReadFault.TheVariants as reading
use Rattle.llb_commands.specs.declared.disassembling.Written.{Written}
use Rattle.llb_commands.specs.declared.disassembling.Written.TheVariants as written
use Rattle.llb_commands.specs.declared.fault.ProgramFault.{ProgramFault}
use Rattle.llb_commands.specs.declared.fault.ProgramFault.TheVariants as fault
use Rattle.llb_commands.specs.CallStreams.{Stream, IsKept}
use Rattle.llb_commands.specs.Running.{IsRefusal, TellsRefusal}
use Rattle.llb_commands.specs.Assembly.{IsOut, IsPartOut, IsAssembled, IsNoText, IsUnread}

-- the fault with which the program ends if the assembler fails with this fault: `Assembling` if a line is refused, `Text` if memory or a write failed
abbrev pub assembling_fault : AsmFault → ProgramFault
assembling_fault (asm.Line n rule) = fault.Assembling (asm.Line n rule)
assembling_fault (asm.UnknownLabel n) = fault.Assembling (asm.UnknownLabel n)
assembling_fault asm.Memory = fault.Text asm.Memory
assembling_fault asm.Write = fault.Text asm.Write

-- the fault with which the program ends if reading the entries of a definition fails with this fault
abbrev pub entries_fault : OpFault → ProgramFault
entries_fault e = if ops.is_memory e then fault.Entries else fault.Unread e

-- the fault with which the program ends if a text could not be read to its end
abbrev pub text_unread_as : ReadFault → ProgramFault
text_unread_as reading.TooLong = fault.TooLong
text_unread_as (reading.Failed kind) = fault.Read
text_unread_as (reading.Unending interrupted) = fault.Read
text_unread_as reading.Memory = fault.Memory

-- the text made from the input is written; or there is a fault, and at most a prefix of the text is written
abbrev pub EndsIn : (List ℕ → List ℕ → Type 0) → (ProgramFault → List ℕ → Type 0) → Option (List ℕ) → Stream → Result (Unit {0}) ProgramFault → Type 0
EndsIn Comes IsRefused input output (Ok u) = IfSome input (IsOut Comes output)
EndsIn Comes IsRefused input output (Err e) = (IsKept output × TellsRefusal IsRefused input e) ⊎ ((¬ IsRefusal e) × IfSome input (IsPartOut Comes output))

-- the result of assembling a text: the definition; or a fault (if the fault is a refusal, `IsNoText` says its cause in the text)
abbrev pub IsDefinitionOf : List ℕ → Result (List ℕ) ProgramFault → Type 0
IsDefinitionOf text (Ok definition) = IsAssembled text definition
IsDefinitionOf text (Err e) = IsRefusal e → IsNoText e text

-- the result of assembling an input: the definition, or a fault; a refusal has its cause in the input (`IsNoText`). Without known bytes this says nothing.
abbrev pub IsDefinitionIn : Option (List ℕ) → Result (List ℕ) ProgramFault → Type 0
IsDefinitionIn input (Ok definition) = IfSome input (λ text. IsAssembled text definition)
IsDefinitionIn input (Err e) = TellsRefusal IsNoText input e

-- the result of reading an input as a definition: the entries, or a fault; if the fault is a refusal, its cause is in the input (`IsUnread`)
abbrev pub AreEntriesIn : Option (List ℕ) → Result (List (List ℕ)) ProgramFault → Type 0
AreEntriesIn input (Ok entries) = IfSome input (λ bytes. definition_of bytes ≡ Ok entries)
AreEntriesIn input (Err e) = TellsRefusal IsUnread input e

-- the rule by which entries have their forms: as they are disassembled, or with all their ops
abbrev pub AreBy : Written → List (List ℕ) → List Formed → Type 0
AreBy written.Entries = AreFormed
AreBy written.Ops = AreWorded
