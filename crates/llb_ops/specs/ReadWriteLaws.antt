-- Laws that relate reading and writing.
use Rattle.std.specs.Prelude.{◌≡◌, ℕ, ◌≤◌, List, length, Ok}
use Rattle.llb_wire.specs.CallResults.{◌>>=◌}
use Rattle.llb_wire.specs.Spelling.{AreBytes}
use Rattle.llb_wire.specs.Records.{Record, SpellRecords}
use Rattle.llb_ops.specs.declared.op.Op.{Op}
use Rattle.llb_ops.specs.Limits.{entry_limit}
use Rattle.llb_ops.specs.Records.{Shape, parts, fitting}
use Rattle.llb_ops.specs.Messages.{op_shape, op_in, op_of}
use Rattle.llb_ops.specs.Writing.{op_bytes}
use Rattle.llb_ops.specs.Definition.{definition_of, definition_bytes}

-- an op that was read from an entry is read again from its canonical bytes, if these are within the limit of an entry
abbrev pub IsReadAgain : Op → Type 0
IsReadAgain op = (entry : List ℕ) → op_of entry ≡ Ok op → length (op_bytes op) ≤ entry_limit → op_of (op_bytes op) ≡ Ok op

-- For any message: the records that are read are those that the bytes spell by the grammar (`SpellRecords`); but the bytes are refused if the record of a field
-- of the table has another wire type than the field, or if a string is not UTF-8. An op is read from the records that its entry spells, and from nothing else.
pub record IsReadOfRecords (bytes : List ℕ) : Type 0 where
  pub found : (shape : Shape) (rs : List Record) → parts shape bytes ≡ Ok rs → SpellRecords bytes rs
  pub spelled : (shape : Shape) (rs : List Record) → SpellRecords bytes rs → parts shape bytes ≡ fitting shape rs
  pub op_found : (op : Op) → op_of bytes ≡ Ok op → (rs : List Record) × SpellRecords bytes rs × (fitting op_shape rs ≡ Ok rs) × (op_in rs ≡ Ok op)
  pub op_spelled : (rs : List Record) → SpellRecords bytes rs → length bytes ≤ entry_limit → op_of bytes ≡ (fitting op_shape rs >>= op_in)

-- if these entries were read from the bytes of a definition, the same entries are read from the canonical bytes of a definition that has them
abbrev pub AreReadAgain : List (List ℕ) → Type 0
AreReadAgain entries = (bytes : List ℕ) → AreBytes bytes → definition_of bytes ≡ Ok entries → definition_of (definition_bytes entries) ≡ Ok entries
