-- How much of the text of entries a call writes, also if the call fails.
use Rattle.std.specs.Prelude.{◌≡◌, ◌≢◌, ℕ, List, [], ◌∷◌, length, take, drop, Bool, true, ◌==◌, ◌&&◌, if◌then◌else◌, Option, Some, None, Result, Ok, Err}
use Rattle.std.specs.Io.KnownBytes.{Appends}
use Rattle.std.specs.Str.{bytes_eq}
use Rattle.llb_wire.specs.declared.fault.WireFault.{WireFault}
use Rattle.llb_wire.specs.declared.field.Field.{Field}
use Rattle.llb_wire.specs.Reading.{next_field}
use Rattle.llb_wire.specs.Sink.{PartOut}
use Rattle.llb_ops.specs.Table.{Row}
use Rattle.llb_asm.specs.declared.fault.AsmFault.{AsmFault}
use Rattle.llb_asm.specs.declared.fault.AsmFault.TheVariants as fault
use Rattle.llb_asm.specs.declared.print.Front.{Front}
use Rattle.llb_asm.specs.declared.print.Wording.{Wording}
use Rattle.llb_asm.specs.declared.print.Wording.TheVariants.{Exact, Any}
use Rattle.llb_ops.specs.Writing.{op_bytes}
use Rattle.llb_asm.specs.DisassembledText.{PlainLine, item_line, held_text, Form, structured, raw, HasForm, HasWords}

-- a call that succeeded has written the whole text; a call that failed, for want of memory or because the sink has failed, has written a prefix of the text
abbrev pub Prints : Option (List ℕ) → Option (List ℕ) → Bool → List ℕ → Result (Unit {0}) AsmFault → Type 0
Prints taken taken' failed' text (Ok u) = Appends taken taken' text
Prints taken taken' failed' text (Err fault.Memory) = PartOut taken taken' text
Prints taken taken' failed' text (Err fault.Write) = (failed' ≡ true) × PartOut taken taken' text
Prints taken taken' failed' text (Err (fault.Line n rule)) = ⊥
Prints taken taken' failed' text (Err (fault.UnknownLabel n)) = ⊥

-- ---- one record at a time

-- the result of reading the next record, if that record is f
abbrev pub found : Field → Result (Option Field) WireFault
found f = Ok (Some f)

-- the front has the field number, value and payload of the first record of the bytes, and the bytes after this record; no front: no record can be read
abbrev pub Finds : List ℕ → Option Front → Type 0
Finds bytes None = (f : Field) → next_field bytes 0 ≢ found f
Finds bytes (Some front) =
    (f : Field) × (next_field bytes 0 ≡ found f) × (front.number ≡ f.number) × (front.value ≡ f.value)
    × (front.payload.now ≡ drop f.start (take f.«end» bytes)) × (front.after.now ≡ drop f.«end» bytes)

-- the line of a String or Bytes field; none for an empty key or value of a map entry
abbrev pub held_lines : List (List ℕ) → ℕ → Row → List ℕ → List PlainLine
held_lines labels depth row held =
    if row.1.of_entry && (length held == 0) then [] else item_line depth row.0 (held_text row.1.kind labels row.0 held) ∷ []

-- ---- the form of an entry

-- the rule by which an entry has its form: `Exact` writes as ops the entries that are canonical, `Any` all that can be read
abbrev pub HasBy : Wording → List ℕ → Form → Type 0
HasBy Exact = HasForm
HasBy Any = HasWords

-- whether an entry is written as the op that it is read as, given the op's canonical bytes
abbrev pub is_op_by : Wording → List ℕ → List ℕ → Bool
is_op_by Exact bytes entry = bytes_eq bytes entry
is_op_by Any bytes entry = true

-- the canonical bytes of the op as which an entry of this form is written; nothing if it is written as raw bytes
abbrev pub bytes_by : Form → Option (List ℕ)
bytes_by (structured op has) = Some (op_bytes op)
bytes_by raw = None
