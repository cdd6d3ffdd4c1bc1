-- What `show --findings` prints for the bytes that it reads: a line for each fault of a definition.
use Rattle.std.specs.Prelude.{◌≡◌, ◌⊎◌, ℕ, List, [], ◌∷◌, Bool, true, false, ◌==◌, length, Option, Result, Ok, Err, IfSome, Vec}
use Rattle.std.specs.List.{flat_map}
use Rattle.std.specs.Global.{Global}
use Rattle.llb_ops.specs.declared.fault.OpFault.TheVariants.{OverLimit}
use Rattle.llb_loader.specs.declared.fault.LoadFault.{LoadFault}
use Rattle.llb_loader.specs.declared.fault.LoadFault.TheVariants.{Definition}
use Rattle.llb_loader.specs.Faults.{load_text}
use Rattle.llb_findings.specs.Findings.{AreFindingsIn, BeginsAsLoad}
use Rattle.llb_commands.specs.CallStreams.{Io, Stream, IsKept, IsPartWritten, IsWritten}
use Rattle.llb_commands.specs.Faults.{fault_line}
use Rattle.llb_commands.specs.Running.{IsRefusal}
use Rattle.llb_commands.specs.declared.bounded_reading.ReadFault.{ReadFault}
use Rattle.llb_commands.specs.declared.bounded_reading.ReadFault.TheVariants as reading
use Rattle.llb_commands.specs.declared.fault.ProgramFault.{ProgramFault}

-- the line of a fault
abbrev pub finding_line : LoadFault → List ℕ
finding_line e = fault_line (load_text e)

-- the lines of faults, in their order
abbrev pub found_text : List LoadFault → List ℕ
found_text found = flat_map finding_line found

-- `found` has every fault that stands in these bytes, and no other, in the loader's order. It is empty where the bytes are loaded as a graph; else its first
-- fault is the one with which they are refused.
pub record AreFound (bytes : List ℕ) (found : List LoadFault) : Type 0 where
  pub all : AreFindingsIn bytes found
  pub begins : BeginsAsLoad bytes found

-- ---- the steps

-- the only fault of a definition that is longer than the limit; or a fault that is no refusal
abbrev pub IsTooLong : Result (Vec LoadFault Global) ProgramFault → Type 0
IsTooLong (Ok found) = found.items ≡ Definition OverLimit ∷ []
IsTooLong (Err e) = ¬ IsRefusal e

-- no list; and the fault is no refusal
abbrev pub FindsNone : Result (Vec LoadFault Global) ProgramFault → Type 0
FindsNone (Ok found) = ⊥
FindsNone (Err e) = ¬ IsRefusal e

-- what is found in a definition that was not read to its end with this fault
abbrev pub FindsUnread : ReadFault → Result (Vec LoadFault Global) ProgramFault → Type 0
FindsUnread reading.TooLong = IsTooLong
FindsUnread _ = FindsNone

-- every fault of these bytes; or a fault that is no refusal
abbrev pub FindsIn : List ℕ → Result (Vec LoadFault Global) ProgramFault → Type 0
FindsIn bytes (Ok found) = AreFound bytes found.items
FindsIn bytes (Err e) = ¬ IsRefusal e

-- the same of an input, if its bytes are known
abbrev pub Finds : Option (List ℕ) → Result (Vec LoadFault Global) ProgramFault → Type 0
Finds input (Ok found) = IfSome input (λ bytes. AreFound bytes found.items)
Finds input (Err e) = ¬ IsRefusal e

-- the lines of these faults are written, and the result says whether there is none; or there is a fault, which is no refusal, and at most a prefix of the lines
-- is written
abbrev pub PrintsFound : List LoadFault → Stream → Result Bool ProgramFault → Type 0
PrintsFound found output (Ok none) = ((length found == 0) ≡ none) × IsWritten output (found_text found)
PrintsFound found output (Err e) = (¬ IsRefusal e) × (IsKept output ⊎ IsPartWritten output (found_text found))

-- ---- how the command ends

-- the lines of all faults of these bytes are written, and nothing else; `none` says whether there is no fault
abbrev pub ListsAll : Bool → Stream → List ℕ → Type 0
ListsAll none output bytes = (found : List LoadFault) × AreFound bytes found × ((length found == 0) ≡ none) × IsWritten output (found_text found)

-- a prefix of these lines is written, and no more
abbrev pub ListsPart : Stream → List ℕ → Type 0
ListsPart output bytes = (found : List LoadFault) × AreFound bytes found × IsPartWritten output (found_text found)

-- all lines are written, and the result says whether there is none; or there is a fault, which is no refusal, and at most a prefix of the lines is written
abbrev pub ListsIn : Option (List ℕ) → Stream → Result Bool ProgramFault → Type 0
ListsIn input output (Ok none) = IfSome input (ListsAll none output)
ListsIn input output (Err e) = (¬ IsRefusal e) × (IsKept output ⊎ IfSome input (ListsPart output))

-- How `show --findings` ends. Status 0: there is no fault, and nothing is written. 2: the lines of all faults are written to the output, and nothing else. 3: a
-- device or memory failed; nothing is written, or a prefix of the lines.
abbrev pub Lists : Io → ℕ → Type 0
Lists io status =
    ((status ≡ 0) × IsKept io.errors × IfSome io.input.before (ListsAll true io.output))
    ⊎ (((status ≡ 2) × IsKept io.errors × IfSome io.input.before (ListsAll false io.output))
    ⊎ ((status ≡ 3) × (IsKept io.output ⊎ IfSome io.input.before (ListsPart io.output))))
