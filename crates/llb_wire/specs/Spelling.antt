-- The grammar of the wire: which bytes spell a number or a record, by the encoding guide of Protocol Buffers ("Base 128 Varints",
-- "Message Structure"), and which spelling is the shortest. The grammar does not mention how bytes are read.
use Rattle.std.specs.Prelude.{◌≡◌, ◌≢◌, ℕ, zero, suc, ◌+◌, ◌-◌, ◌*◌, ◌/◌, ◌%◌, ◌<◌, ◌≤◌, ◌^◌, ◌⊎◌, List, [], ◌∷◌, ◌++◌, length, take, drop}
use Rattle.std.specs.Prelude.{nat_lt, if◌then◌else◌}
use Rattle.std.specs.List.{AllByRecursion}
use Rattle.std.specs.Int.{Width, w32, w64, byte_len, to_le_bytes, from_le_bytes}
use Rattle.llb_wire.specs.declared.fault.WireFault.{WireFault}
use Rattle.llb_wire.specs.declared.fault.WireFault.TheVariants.{Truncated, LongVarint, BadField, BadWireType}
use Rattle.llb_wire.specs.declared.field.Wire.{Wire}
use Rattle.llb_wire.specs.declared.field.Wire.TheVariants.{Varint, I64, Len, I32}
use Rattle.llb_wire.specs.declared.field.Field.{Field}

-- ---- numbers

-- The bytes spell the number n. A byte below 128 spells itself. A byte 128 + g and the bytes after it spell g + 128 m, if the bytes after it spell m.
abbrev pub Spells : List ℕ → ℕ → Type 0
Spells [] n = ⊥
Spells (b ∷ []) n = (b < 128) × (n ≡ b)
Spells (b ∷ c ∷ bs) n = (128 ≤ b) × (m : ℕ) × (n + 128 ≡ b + 128 * m) × Spells (c ∷ bs) m

-- The bytes are a varint of n: at most ten bytes, which spell n. The number n has at most 64 bits.
pub record IsVarint (bytes : List ℕ) (n : ℕ) : Type 0 where
  pub spells : Spells bytes n
  pub short : length bytes ≤ 10
  pub small : n < 2 ^ 64

-- the bytes from position `from` up to position `to`, without the byte at `to`
abbrev pub between : ℕ → ℕ → List ℕ → List ℕ
between from to bytes = take (to - from) (drop from bytes)

-- the bytes from `at` up to `last` are a varint of n
pub record VarintAt (bytes : List ℕ) (at n last : ℕ) : Type 0 where
  pub begins : at < last
  pub inside : last ≤ length bytes
  pub spelled : IsVarint (between at last bytes) n

-- each byte is at least 128, so the varint goes on after each of them
abbrev pub IsOpen : List ℕ → Type 0
IsOpen [] = Unit {0}
IsOpen (b ∷ bs) = (128 ≤ b) × IsOpen bs

-- the bytes end inside the varint that begins at position `at`
pub record CutVarint (bytes : List ℕ) (at : ℕ) : Type 0 where
  pub more : IsOpen (drop at bytes)
  pub few : length (drop at bytes) ≤ 9

-- the first `more` bytes are at least 128, so the varint goes on after each of them, and the byte after these bytes is above 1
abbrev pub IsLong : ℕ → List ℕ → Type 0
IsLong more [] = ⊥
IsLong zero (b ∷ bs) = 1 < b
IsLong (suc more) (b ∷ bs) = (128 ≤ b) × IsLong more bs

-- the varint at this position has a tenth byte, and the tenth byte is above 1
abbrev pub TenthAboveOne : List ℕ → ℕ → Type 0
TenthAboveOne bytes at = IsLong 9 (drop at bytes)

-- this fault is the reason why no varint can be read at this position
abbrev pub VarintCause : List ℕ → ℕ → WireFault → Type 0
VarintCause bytes at Truncated = CutVarint bytes at
VarintCause bytes at LongVarint = TenthAboveOne bytes at
VarintCause bytes at BadField = ⊥
VarintCause bytes at BadWireType = ⊥

-- ---- records

-- the code of a wire type in a tag
abbrev pub code_of : Wire → ℕ
code_of Varint = 0
code_of I64 = 1
code_of Len = 2
code_of I32 = 5

-- a number that a field can have
abbrev pub IsFieldNumber : ℕ → Type 0
IsFieldNumber n = (1 ≤ n) × (n ≤ 536_870_911)

-- A tag is spelled from `at` up to `last`: a varint of eight times the field's number plus the code of the wire type.
pub record TagAt (bytes : List ℕ) (at number : ℕ) (wire : Wire) (last : ℕ) : Type 0 where
  pub spelled : VarintAt bytes at (8 * number + code_of wire) last
  pub named : IsFieldNumber number

-- the bytes from `at` up to `last` spell n in a fixed width, least significant byte first
pub record FixedAt (w : Width) (bytes : List ℕ) (at n last : ℕ) : Type 0 where
  pub size : last ≡ at + byte_len w
  pub inside : last ≤ length bytes
  pub value : n ≡ from_le_bytes w (between at last bytes)

-- the tag of record f ends at position `at`, and the bytes after the tag spell the payload of f; for a LEN they begin with the payload's length
abbrev pub PayloadAt : Wire → List ℕ → ℕ → Field → Type 0
PayloadAt Varint bytes at f = (f.start ≡ at) × VarintAt bytes at f.value f.«end»
PayloadAt I64 bytes at f = (f.start ≡ at) × FixedAt w64 bytes at f.value f.«end»
PayloadAt Len bytes at f = VarintAt bytes at f.value f.start × (f.«end» ≡ f.start + f.value) × (f.«end» ≤ length bytes)
PayloadAt I32 bytes at f = (f.start ≡ at) × FixedAt w32 bytes at f.value f.«end»

-- the bytes at a position spell the record f
pub record RecordAt (bytes : List ℕ) (at : ℕ) (f : Field) : Type 0 where
  pub tag_end : ℕ
  pub tag : TagAt bytes at f.number f.wire tag_end
  pub payload : PayloadAt f.wire bytes tag_end f

-- the tag ends at position `at`, and the bytes end before the payload does
abbrev pub CutPayload : Wire → List ℕ → ℕ → Type 0
CutPayload Varint bytes at = CutVarint bytes at
CutPayload I64 bytes at = length bytes < at + 8
CutPayload Len bytes at = CutVarint bytes at ⊎ ((n : ℕ) × (last : ℕ) × VarintAt bytes at n last × (length bytes < last + n))
CutPayload I32 bytes at = length bytes < at + 4

-- after the tag there is a varint (the value, or the length of a LEN), and its tenth byte is above 1
abbrev pub LongPayload : Wire → List ℕ → ℕ → Type 0
LongPayload Varint bytes at = TenthAboveOne bytes at
LongPayload I64 bytes at = ⊥
LongPayload Len bytes at = TenthAboveOne bytes at
LongPayload I32 bytes at = ⊥

-- this fault is the reason why no payload can be read, if the tag ends at this position
abbrev pub PayloadCause : Wire → List ℕ → ℕ → WireFault → Type 0
PayloadCause wire bytes at Truncated = CutPayload wire bytes at
PayloadCause wire bytes at LongVarint = LongPayload wire bytes at
PayloadCause wire bytes at BadField = ⊥
PayloadCause wire bytes at BadWireType = ⊥

-- a valid tag is at a position, and `wrong` holds of the tag's wire type and the bytes after the tag
pub record BehindTag (wrong : Wire → List ℕ → ℕ → Type 0) (bytes : List ℕ) (at : ℕ) : Type 0 where
  pub number : ℕ
  pub wire : Wire
  pub tag_end : ℕ
  pub tag : TagAt bytes at number wire tag_end
  pub payload : wrong wire bytes tag_end

-- there is a tag at this position, but its field number is not 1 to 536870911
pub record NamesNoField (bytes : List ℕ) (at : ℕ) : Type 0 where
  pub tag : ℕ
  pub tag_end : ℕ
  pub spelled : VarintAt bytes at tag tag_end
  pub number : ¬ IsFieldNumber (tag / 8)

-- there is a tag with a valid field number at this position, but the tag's last three bits are not the code of one of the four wire types
pub record HasNoWire (bytes : List ℕ) (at : ℕ) : Type 0 where
  pub tag : ℕ
  pub tag_end : ℕ
  pub spelled : VarintAt bytes at tag tag_end
  pub number : IsFieldNumber (tag / 8)
  pub none : (w : Wire) → tag % 8 ≢ code_of w

-- this fault is the reason why no record can be read at this position; in each case the parts of the record before the fault are valid
abbrev pub RecordCause : List ℕ → ℕ → WireFault → Type 0
RecordCause bytes at Truncated = CutVarint bytes at ⊎ BehindTag CutPayload bytes at
RecordCause bytes at LongVarint = TenthAboveOne bytes at ⊎ BehindTag LongPayload bytes at
RecordCause bytes at BadField = NamesNoField bytes at
RecordCause bytes at BadWireType = HasNoWire bytes at

-- ---- the shortest spellings

-- the shortest spelling of a number; `more` + 1 bytes have to be enough to spell the number
unfoldable pub shortest : ℕ → ℕ → List ℕ
shortest zero n = n ∷ []
shortest (suc more) n = if nat_lt n 128 then n ∷ [] else (128 + n % 128) ∷ shortest more (n / 128)

-- the shortest varint of a number of at most 64 bits
abbrev pub varint_text : ℕ → List ℕ
varint_text n = shortest 9 n

-- each number of a list is a byte: it is below 256
abbrev pub AreBytes : List ℕ → Type 0
AreBytes bytes = AllByRecursion (λ b. b < 256) bytes

-- The bytes are a varint of n, and no varint of n has fewer bytes.
pub record IsShortest (spelling : List ℕ) (n : ℕ) : Type 0 where
  pub is_one : IsVarint spelling n
  pub bytes : AreBytes spelling
  pub least : (other : List ℕ) → AreBytes other → IsVarint other n → length spelling ≤ length other

-- the bytes after the tag of a record: for a LEN the length of the payload and the payload, for any other wire type the bytes of the value
abbrev pub payload_text : Wire → ℕ → List ℕ → List ℕ
payload_text Varint value payload = varint_text value
payload_text I64 value payload = to_le_bytes w64 value
payload_text Len value payload = varint_text (length payload) ++ payload
payload_text I32 value payload = to_le_bytes w32 value

-- the tag of a record, as a varint
abbrev pub tag_text : ℕ → Wire → List ℕ
tag_text number wire = varint_text (8 * number + code_of wire)

-- the bytes of a record with shortest varints
abbrev pub record_text : ℕ → Wire → ℕ → List ℕ → List ℕ
record_text number wire value payload = tag_text number wire ++ payload_text wire value payload

-- the value of a written record: for a LEN the length of the payload, for any other wire type the given value
abbrev pub value_text : Wire → ℕ → List ℕ → ℕ
value_text Varint value payload = value
value_text I64 value payload = value
value_text Len value payload = length payload
value_text I32 value payload = value

-- how many bytes are between the tag and the payload of a written record
abbrev pub payload_start : Wire → List ℕ → ℕ
payload_start Varint payload = 0
payload_start I64 payload = 0
payload_start Len payload = length (varint_text (length payload))
payload_start I32 payload = 0

-- `new` is `old` with zero or more bytes appended
pub record Extends (old new : List ℕ) : Type 0 where
  pub more : List ℕ
  pub bytes : new ≡ old ++ more

-- a written record that begins at position 0, as a `Field`, which has the positions of the payload
abbrev pub written_field : ℕ → Wire → ℕ → List ℕ → Field
written_field number wire value payload = record {
  number = number;
  wire = wire;
  value = value_text wire value payload;
  start = length (tag_text number wire) + payload_start wire payload;
  «end» = length (record_text number wire value payload);
}
