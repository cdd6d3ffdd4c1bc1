-- The fields of a message in the order of its bytes, and the conditions that these fields meet if the bytes are canonical (as this crate writes them).
-- Sources: the table of messages (`ops.proto` of BuildKit); the encoding guide of Protocol Buffers ("Message Structure", "Field Presence", "Oneofs", "Maps").
use Rattle.std.specs.Prelude.{◌≡◌, ℕ, ◌+◌, ◌≤◌, List, ◌++◌, length, Some, Result, Ok, Err, Bool, true, false, is_none, nat_lt}
use Rattle.std.specs.Prelude.{◌==◌, ◌&&◌, ◌||◌, not, if◌then◌else◌}
use Rattle.std.specs.List.{AllByRecursion, list_all}
use Rattle.std.specs.Str.{is_utf8}
use Rattle.std.specs.Int.{w64, cast_unsigned}
use Rattle.llb_wire.specs.Records.{Record}
use Rattle.llb_ops.specs.declared.table.MessageName.{MessageName}
use Rattle.llb_ops.specs.declared.table.MessageName.TheVariants as named
use Rattle.llb_ops.specs.declared.table.FieldKind.{FieldKind}
use Rattle.llb_ops.specs.declared.table.FieldKind.TheVariants.{Int64, Int32, Uint32, Enum, Bool as Flag, String, Bytes, Message}
use Rattle.llb_ops.specs.declared.table.NamedField.{NamedField}
use Rattle.llb_ops.specs.declared.op.Op.{Op}
use Rattle.llb_ops.specs.declared.fault.OpFault.{OpFault}
use Rattle.llb_ops.specs.Limits.{entry_limit, field_limit}
use Rattle.llb_ops.specs.Table.{Row, rows_of, by_number, shape_of}
use Rattle.llb_ops.specs.Records.{form_of, parts, int32, int64, uint32, flag}
use Rattle.llb_ops.specs.Messages.{op_of}
use Rattle.llb_ops.specs.Writing.{bit, set_number, set_bytes, op_bytes}

-- a list of fields, then the extra bytes; a field is a row of the table and a value: the number that its varint spells, bytes, or an inner message's fields
pub data Fields : Type 0 where
  extra : List ℕ → Fields
  number : Row → ℕ → Fields → Fields
  bytes : Row → List ℕ → Fields → Fields
  message : Row → Fields → Fields → Fields

-- the bytes that spell these fields in their order, each field in its shortest spelling, and then the extra bytes
abbrev pub bytes_of : Fields → List ℕ
bytes_of (extra more) = more
bytes_of (number row v rest) = set_number row.1.number v ++ bytes_of rest
bytes_of (bytes row held rest) = set_bytes row.1.number held ++ bytes_of rest
bytes_of (message row inner rest) = set_bytes row.1.number (bytes_of inner) ++ bytes_of rest

-- ---- canonical fields, by the table

-- Whether field f may come after the field with the number `last`: field numbers ascend, and only a repeated field may occur again. `set` says whether a member
-- of the message's oneof has occurred before f; if so, f may not be a member.
abbrev pub may_follow : ℕ → Bool → NamedField → Bool
may_follow last set f = (nat_lt last f.number || (f.repeated && (last == f.number))) && not (f.member && set)

-- message m has this row under the row's field number, and the row's field may come after field `last`; `set`: a member of m's oneof has occurred before it
pub record IsNext (m : MessageName) (last : ℕ) (set : Bool) (row : Row) : Type 0 where
  pub known : by_number row.1.number (rows_of m) ≡ Some row
  pub follows : may_follow last set row.1 ≡ true

-- whether a value of this field is written even if the value is 0 or empty: yes for a member of a oneof, a repeated field, and the key or value of a map entry
abbrev pub may_be_empty : NamedField → Bool
may_be_empty f = f.member || f.repeated || f.of_entry

-- canonical bytes may have v in the varint of a field of this kind (a negative value is in two's complement of 64 bits); false if the kind holds no number
abbrev pub IsNumberOf : FieldKind → ℕ → Type 0
IsNumberOf Int64 v = cast_unsigned w64 (int64 v) ≡ v
IsNumberOf Int32 v = cast_unsigned w64 (int32 v) ≡ v
IsNumberOf Uint32 v = uint32 v ≡ v
IsNumberOf Enum v = cast_unsigned w64 (int32 v) ≡ v
IsNumberOf Flag v = bit (flag v) ≡ v
IsNumberOf String v = ⊥
IsNumberOf Bytes v = ⊥
IsNumberOf (Message m) v = ⊥

-- the field is of the kind `String` and these bytes are UTF-8, or it is of the kind `Bytes`, for which any bytes will do; false for the other kinds
abbrev pub IsBytesOf : FieldKind → List ℕ → Type 0
IsBytesOf Int64 held = ⊥
IsBytesOf Int32 held = ⊥
IsBytesOf Uint32 held = ⊥
IsBytesOf Enum held = ⊥
IsBytesOf Flag held = ⊥
IsBytesOf String held = is_utf8 held ≡ true
IsBytesOf Bytes held = Unit {0}
IsBytesOf (Message m) held = ⊥

-- The bytes can be extra bytes of message m: they are read as records, all of fields that the table lacks for m.
pub record AreUnnamed (m : MessageName) (more : List ℕ) : Type 0 where
  pub records : List Record
  pub read : parts (shape_of m) more ≡ Ok records
  pub unnamed : AllByRecursion (λ r. is_none (form_of (shape_of m) r.number) ≡ true) records

-- whether the records were read, and all of them are of fields that the table lacks for message m; false if the read failed
abbrev pub only_unnamed : MessageName → Result (List Record) OpFault → Bool
only_unnamed m (Ok records) = list_all (λ r. is_none (form_of (shape_of m) r.number)) records
only_unnamed m (Err f) = false

-- whether bytes can be extra bytes of message m: they are read as records, all of fields that the table lacks for m
unfoldable pub are_unnamed : MessageName → List ℕ → Bool
are_unnamed m more = only_unnamed m (parts (shape_of m) more)

-- canonical bytes of message m may have these fields after the field with the number `last`; `set` says whether a member of m's oneof has occurred before
abbrev pub AreFields : MessageName → ℕ → Bool → Fields → Type 0
AreFields m last set (extra more) = AreUnnamed m more
AreFields m last set (number row v rest) =
    IsNext m last set row × IsNumberOf row.1.kind v × (not (v == 0) || may_be_empty row.1 ≡ true) × AreFields m row.1.number (set || row.1.member) rest
AreFields m last set (bytes row held rest) =
    IsNext m last set row × IsBytesOf row.1.kind held × (not (length held == 0) || may_be_empty row.1 ≡ true)
    × AreFields m row.1.number (set || row.1.member) rest
AreFields m last set (message row inner rest) =
    IsNext m last set row × ((sub : MessageName) × (row.1.kind ≡ Message sub) × AreFields sub 0 false inner)
    × AreFields m row.1.number (set || row.1.member) rest

-- ---- entries of a map

-- these fields without the empty keys and the empty values in entries of maps; canonical bytes keep such keys and values
abbrev pub without_empty : Fields → Fields
without_empty (extra more) = extra more
without_empty (number row v rest) = number row v (without_empty rest)
without_empty (bytes row held rest) = if row.1.of_entry && (length held == 0) then without_empty rest else bytes row held (without_empty rest)
without_empty (message row inner rest) = message row (without_empty inner) (without_empty rest)

-- ---- no field occurs too often

-- how many times field n has occurred in succession, if n comes right after `count` occurrences of the field with the number `last`
abbrev pub one_more_of : ℕ → ℕ → ℕ → ℕ
one_more_of last count n = if last == n then count + 1 else 1

-- no field occurs more than `field_limit` times, also in nested messages; right before these fields, the field numbered `last` has occurred `count` times
abbrev pub AreFew : ℕ → ℕ → Fields → Type 0
AreFew last count (extra more) = Unit {0}
AreFew last count (number row v rest) = (one_more_of last count row.1.number ≤ field_limit) × AreFew row.1.number (one_more_of last count row.1.number) rest
AreFew last count (bytes row held rest) = (one_more_of last count row.1.number ≤ field_limit) × AreFew row.1.number (one_more_of last count row.1.number) rest
AreFew last count (message row inner rest) =
    (one_more_of last count row.1.number ≤ field_limit) × AreFew 0 0 inner × AreFew row.1.number (one_more_of last count row.1.number) rest

-- ---- the law of canonical bytes

-- An op's canonical bytes spell fields of the message Op, none of which occurs more than `field_limit` times. If the empty keys and values of map entries
-- are left out, this still holds, and the bytes that remain are not longer. If they are within `entry_limit`, the remaining bytes are read as the same op.
pub record HasFields (op : Op) : Type 0 where
  pub fields : Fields
  pub are : AreFields named.Op 0 false fields
  pub all_few : AreFew 0 0 fields
  pub few : AreFew 0 0 (without_empty fields)
  pub written : op_bytes op ≡ bytes_of fields
  pub shorter : length (bytes_of (without_empty fields)) ≤ length (op_bytes op)
  pub read : length (bytes_of (without_empty fields)) ≤ entry_limit → op_of (bytes_of (without_empty fields)) ≡ Ok op

-- if these bytes are read as an op, `HasFields` holds of that op
abbrev pub EntryHasFields : List ℕ → Type 0
EntryHasFields entry = (op : Op) → op_of entry ≡ Ok op → HasFields op
