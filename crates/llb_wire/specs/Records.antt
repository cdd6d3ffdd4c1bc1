-- The type of a record with its bytes but without a position, and what it means that bytes spell a list of records.
use Rattle.std.specs.Prelude.{◌≡◌, ℕ, ◌+◌, ◌-◌, ◌*◌, ◌≤◌, List, [], ◌∷◌, ◌++◌, length, take, drop, Some, None, Ok}
use Rattle.std.specs.List.{AllByRecursion, flat_map}
use Rattle.std.specs.Int.{Width, w32, w64, byte_len, to_le_bytes, from_le_bytes}
use Rattle.llb_wire.specs.declared.field.Wire.{Wire}
use Rattle.llb_wire.specs.declared.field.Wire.TheVariants.{Varint, I64, Len, I32}
use Rattle.llb_wire.specs.declared.field.Field.{Field}
use Rattle.llb_wire.specs.Spelling.{code_of, IsFieldNumber, IsVarint, AreBytes, varint_text, value_text, record_text}
use Rattle.llb_wire.specs.Reading.{next_field}

-- a record of a message: the number of its field, its wire type, value and payload, and as `text` all its bytes as they were read
pub record Record : Type 0 where
  pub number : ℕ
  pub wire : Wire
  pub value : ℕ
  pub payload : List ℕ
  pub text : List ℕ

-- the record that was read as the `Field` f at the start of the given bytes: f has only the payload's positions; the record has the payload and all its bytes
abbrev pub record_of : List ℕ → Field → Record
record_of bytes f = record { number = f.number; wire = f.wire; value = f.value; payload = drop f.start (take f.«end» bytes); text = take f.«end» bytes }

-- the record that was read as the `Field` f at position `at` of the given bytes: f has only the payload's positions; the record the payload and all its bytes
abbrev pub record_at : List ℕ → ℕ → Field → Record
record_at bytes at f = record {
  number = f.number;
  wire = f.wire;
  value = f.value;
  payload = drop f.start (take f.«end» bytes);
  text = drop at (take f.«end» bytes);
}

-- a record that begins at `at`, as a `Field`, which has the positions of the payload
abbrev pub placed : ℕ → Record → Field
placed at r = record { number = r.number; wire = r.wire; value = r.value; start = at + (length r.text - length r.payload); «end» = at + length r.text }

-- ---- the grammar of records, without positions

-- the bytes spell n in a fixed width, least significant byte first
pub record IsFixed (w : Width) (bytes : List ℕ) (n : ℕ) : Type 0 where
  pub size : length bytes ≡ byte_len w
  pub value : n ≡ from_le_bytes w bytes

-- The bytes after a tag are right for this wire type, value and payload. For a LEN they are the value as a varint, and then the payload, whose length is the
-- value. For any other type they are the payload, and they spell the value.
abbrev pub IsPayload : Wire → List ℕ → ℕ → List ℕ → Type 0
IsPayload Varint bytes value payload = (payload ≡ bytes) × IsVarint bytes value
IsPayload I64 bytes value payload = (payload ≡ bytes) × IsFixed w64 bytes value
IsPayload Len bytes value payload = (count : List ℕ) × (bytes ≡ count ++ payload) × IsVarint count value × (length payload ≡ value)
IsPayload I32 bytes value payload = (payload ≡ bytes) × IsFixed w32 bytes value

-- The bytes of a record: first the tag, a varint of eight times the field's number plus the
-- code of the wire type; then, for a LEN, the length of the payload; and then the payload.
pub record IsRecord (r : Record) : Type 0 where
  pub tag : List ℕ
  pub behind : List ℕ
  pub text : r.text ≡ tag ++ behind
  pub named : IsFieldNumber r.number
  pub tagged : IsVarint tag (8 * r.number + code_of r.wire)
  pub payload : IsPayload r.wire behind r.value r.payload

-- the bytes of these records, one record after another, are exactly the given bytes; and each record's bytes are its tag and its payload (`IsRecord`)
pub record SpellRecords (bytes : List ℕ) (rs : List Record) : Type 0 where
  pub whole : bytes ≡ flat_map (λ r. r.text) rs
  pub each : AllByRecursion IsRecord rs

-- reading one record after another, from a position to the end of the bytes, finds these records and no fault
abbrev pub Walks : List ℕ → ℕ → List Record → Type 0
Walks bytes at [] = next_field bytes at ≡ Ok None
Walks bytes at (r ∷ rs) = (f : Field) × (next_field bytes at ≡ Ok (Some f)) × (r ≡ record_at bytes at f) × Walks bytes f.«end» rs

-- ---- the bytes that are written for records

-- the payload of a record that is written: for a LEN the given payload, for any other wire type the bytes of the value
abbrev pub own_text : Wire → ℕ → List ℕ → List ℕ
own_text Varint value payload = varint_text value
own_text I64 value payload = to_le_bytes w64 value
own_text Len value payload = payload
own_text I32 value payload = to_le_bytes w32 value

-- the record that is written, with the shortest varints: a LEN gets the given payload; any other wire type gets the given value, which must fit the type
abbrev pub written_record : ℕ → Wire → ℕ → List ℕ → Record
written_record number wire value payload = record {
  number = number;
  wire = wire;
  value = value_text wire value payload;
  payload = own_text wire value payload;
  text = record_text number wire value payload;
}

-- The bytes of the record spell the record, and no record with the same field number, wire type and value has fewer bytes.
pub record IsShortestRecord (r : Record) : Type 0 where
  pub is_one : IsRecord r
  pub bytes : AreBytes r.text
  pub least : (other : Record) → AreBytes other.text → IsRecord other → other.number ≡ r.number → other.wire ≡ r.wire
      → other.value ≡ r.value → length r.text ≤ length other.text
