-- The records of a message, and how the value of each kind of field is made from them (the encoding guide of Protocol Buffers: "Message
-- Structure", "Last One Wins", "Optional and Repeated Elements", "Oneofs"). Records are seen here without their positions in the bytes.
use Rattle.std.specs.Prelude.{◌≡◌, ◌<◌, ℕ, zero, suc, ◌-◌, List, [], ◌∷◌, ◌++◌, length, map, Option, Some, None, Result, Ok, Err, Bool}
use Rattle.std.specs.Prelude.{true, false, nat_le, ◌==◌, not, if◌then◌else◌, find, option_map, fold, ◌&&◌, filter, slice_get, is_none, ℤ}
use Rattle.std.specs.Prelude.{◌%◌, ◌^◌}
use Rattle.std.specs.List.{list_all, list_any, flat_map}
use Rattle.std.specs.Str.{is_utf8}
use Rattle.std.specs.Option.{option_map_or}
use Rattle.std.specs.Int.{w32, w64, cast_signed}
use Rattle.llb_wire.specs.CallResults.{◌>>=◌}
use Rattle.llb_wire.specs.declared.fault.WireFault.{WireFault}
use Rattle.llb_wire.specs.declared.field.Wire.{Wire as WireType}
use Rattle.llb_wire.specs.declared.field.Wire.TheVariants as wire
use Rattle.llb_wire.specs.declared.field.Field.{Field}
use Rattle.llb_wire.specs.Reading.{field_at}
use Rattle.llb_wire.specs.Records.{Record, record_of}
use Rattle.llb_ops.specs.declared.fault.OpFault.{OpFault}
use Rattle.llb_ops.specs.declared.fault.OpFault.TheVariants.{Wire, WrongWireType, NotUtf8}
use Rattle.llb_ops.specs.declared.payloads_and_limits.Form.{Form}
use Rattle.llb_ops.specs.declared.payloads_and_limits.Form.TheVariants.{Number, Bytes, Text}
use Rattle.llb_ops.specs.declared.records.Record.{Record as Held}
use Rattle.llb_ops.specs.declared.records.Front.{Front}
use Rattle.llb_ops.specs.Limits.{field_limit}

-- the fields that the table has for a message: for each field its number and its form, which says how the field's payload is read
abbrev pub Shape : Type 0
Shape = List (ℕ × Form)

-- a value of the code's type `Record` as contracts see it: its payload and its text (all bytes of the record) are lists of bytes
abbrev pub view : Held → Record
view r = record { number = r.number; wire = r.wire; value = r.value; payload = r.payload.now; text = r.text.now }

-- values of the code's type `Record`, in their order, each as contracts see it
abbrev pub views : List Held → List Record
views rs = map view rs

-- ---- the records, read from left to right; a record is refused if it can't be read, or if the table has its field with another wire type

-- the form of the field with this number (whether its payload is read as a number, as bytes, or as a text), if the shape has such a field
abbrev pub form_of : Shape → ℕ → Option Form
form_of shape number = option_map (λ n. n.1) (find (λ n. n.0 == number) shape)

-- whether a record of a field of this form may have this wire type; a field that the table lacks has no form, and may have any wire type
abbrev pub wire_fits : Option Form → WireType → Bool
wire_fits None w = true
wire_fits (Some Number) wire.Varint = true
wire_fits (Some Number) wire.I64 = false
wire_fits (Some Number) wire.Len = false
wire_fits (Some Number) wire.I32 = false
wire_fits (Some Bytes) wire.Len = true
wire_fits (Some Bytes) w = false
wire_fits (Some Text) wire.Len = true
wire_fits (Some Text) w = false

-- this result of reading a record, in which a fault of `llb_wire` has become the fault `Wire` of this crate
abbrev pub from_wire : {A : Type 0} → Result A WireFault → Result A OpFault
from_wire (Ok x) = Ok x
from_wire (Err f) = Err (Wire f)

-- the record at the start of the bytes, if its wire type fits the form of its field; else the fault
abbrev pub first_record : Shape → List ℕ → Result Field OpFault
first_record shape bytes = from_wire (field_at bytes 0) >>= λ f. if wire_fits (form_of shape f.number) f.wire then Ok f else Err WrongWireType

-- the records of the bytes, or the first fault; the first `skip` bytes are passed over, since they belong to a record that was already read
unfoldable pub records_from : Shape → ℕ → List ℕ → Result (List Record) OpFault
records_from shape skip [] = Ok []
records_from shape (suc skip) (b ∷ bytes) = records_from shape skip bytes
records_from shape zero (b ∷ bytes) = do
  f ← first_record shape (b ∷ bytes)
  rs ← records_from shape (f.«end» - 1) bytes
  Ok (record_of (b ∷ bytes) f ∷ rs)

-- f has the first record of the bytes, and the bytes after this record
pub record IsFront (shape : Shape) (bytes : List ℕ) (f : Front) : Type 0 where
  pub reads : records_from shape 0 bytes ≡ (records_from shape 0 f.after.now >>= λ rs. Ok (view f.record ∷ rs))
  pub shorter : length f.after.now < length bytes

-- reading the next record of these bytes has this result: a record and the bytes after it, or nothing if no bytes are left, or the first fault of the bytes
abbrev pub Starts : Shape → List ℕ → Result (Option Front) OpFault → Type 0
Starts shape bytes (Ok None) = records_from shape 0 bytes ≡ Ok []
Starts shape bytes (Ok (Some f)) = IsFront shape bytes f
Starts shape bytes (Err e) = records_from shape 0 bytes ≡ Err e

-- ---- checked after the last record is read: whether the payloads of all string fields are UTF-8

-- whether a payload is UTF-8, if the form of its field is `Text`; true for any other field
abbrev pub text_ok : Option Form → List ℕ → Bool
text_ok (Some Text) payload = is_utf8 payload
text_ok o payload = true

-- whether the payload of a record is UTF-8, if the form of the record's field is `Text`; true for any other field
abbrev pub text_fits : Shape → Record → Bool
text_fits shape r = text_ok (form_of shape r.number) r.payload

-- whether the payloads of all records of string fields are UTF-8
abbrev pub texts_fit : Shape → List Record → Bool
texts_fit shape rs = list_all (text_fits shape) rs

-- the records that the bytes of a message are read as, or the first fault; the shape has the number and the form of each field of the message
unfoldable pub parts : Shape → List ℕ → Result (List Record) OpFault
parts shape bytes = records_from shape 0 bytes >>= λ rs. if texts_fit shape rs then Ok rs else Err NotUtf8

-- ---- the records that bytes spell

-- whether each of these records has a wire type that its field may have; if the table lacks the field for the message, any wire type is allowed
abbrev pub wires_fit : Shape → List Record → Bool
wires_fit shape rs = list_all (λ r. wire_fits (form_of shape r.number) r.wire) rs

-- these records, if each has a wire type that its field may have (`wires_fit`) and all strings are UTF-8; else the fault
abbrev pub fitting : Shape → List Record → Result (List Record) OpFault
fitting shape rs = if wires_fit shape rs then (if texts_fit shape rs then Ok rs else Err NotUtf8) else Err WrongWireType

-- the message that `read` makes from the records of these bytes, or the first fault
unfoldable pub message_of : {A : Type 0} → Shape → (List Record → Result A OpFault) → List ℕ → Result A OpFault
message_of shape read bytes = parts shape bytes >>= read

-- ---- the value of a field, from its records

-- the records of field n, in order
abbrev pub all : ℕ → List Record → List Record
all n rs = filter (λ r. r.number == n) rs

-- the last record, if there is one
abbrev pub last_of : List Record → Option Record
last_of rs = slice_get rs (length rs - 1)

-- the number in a singular field: the value of its last record, 0 if there is none
abbrev pub number : List Record → ℕ
number rs = option_map_or (λ r. r.value) (last_of rs) 0

-- the bytes of a singular field: the payload of its last record, empty if there is none
abbrev pub payload : List Record → List ℕ
payload rs = option_map_or (λ r. r.payload) (last_of rs) []

-- the value of a uint32 field whose varint is n: the low 32 bits of n
abbrev pub uint32 : ℕ → ℕ
uint32 n = n % 2 ^ 32

-- the value of an int32 or enum field whose varint is n: the low 32 bits of n, as two's complement
abbrev pub int32 : ℕ → ℤ
int32 n = cast_signed w32 (n % 2 ^ 32)

-- the value of an int64 field whose varint is n: the low 64 bits of n, as two's complement
abbrev pub int64 : ℕ → ℤ
int64 n = cast_signed w64 (n % 2 ^ 64)

-- the value of a bool field whose varint is n: true unless n is 0
abbrev pub flag : ℕ → Bool
flag n = not (n == 0)

-- the items of a repeated string or bytes field, in order
abbrev pub payloads : List Record → List (List ℕ)
payloads rs = map (λ r. r.payload) rs

-- the payloads of records, joined one after the other; a singular message is read from these bytes
abbrev pub joined : List Record → List ℕ
joined rs = flat_map (λ r. r.payload) rs

-- the message in a singular field, read from the joined payloads of the field's records; none if there are no records; or the first fault
unfoldable pub one : {A : Type 0} → (List ℕ → Result A OpFault) → List Record → Result (Option A) OpFault
one read rs = if length rs == 0 then Ok None else (read (joined rs) >>= λ m. Ok (Some m))

-- the messages of a repeated field, in order, or the first fault
unfoldable pub each : {A : Type 0} → (List ℕ → Result A OpFault) → List Record → Result (List A) OpFault
each read [] = Ok []
each read (r ∷ rs) = read r.payload >>= λ m. (each read rs >>= λ ms. Ok (m ∷ ms))

-- the extra bytes: the bytes of the records of fields that the table lacks for the message, in order and unchanged
abbrev pub unnamed : Shape → List Record → List ℕ
unnamed shape rs = flat_map (λ r. r.text) (filter (λ r. is_none (form_of shape r.number)) rs)

-- ---- a oneof

-- whether the field of a record is one of these members of a oneof
abbrev pub is_member : List ℕ → Record → Bool
is_member members r = list_any (λ m. m == r.number) members

-- the number of the member of a oneof that is set: the field number of the last record of any member
abbrev pub chosen : List ℕ → List Record → Option ℕ
chosen members rs = option_map (λ r. r.number) (last_of (filter (is_member members) rs))

-- a step of `since`, which keeps a list rs: after record r the list is empty if r passes the test p; else the list is rs with r at its end
abbrev pub kept : (Record → Bool) → List Record → Record → List Record
kept p rs r = if p r then [] else rs ++ r ∷ []

-- the records after the last record that passes the test p
abbrev pub since : (Record → Bool) → List Record → List Record
since p rs = fold (kept p) [] rs

-- whether a record's field is a member of the oneof, but not member n
abbrev pub is_other : List ℕ → ℕ → Record → Bool
is_other members n r = is_member members r && not (r.number == n)

-- the records from which member n of a oneof is read if it is set: the records of field n after the last record of another member
abbrev pub member : List ℕ → ℕ → List Record → List Record
member members n rs = all n (since (is_other members n) rs)

-- the value of member n of a oneof, read from the records of that member; none if no member is set (then there is no n); or the first fault
abbrev pub member_of : {A : Type 0} → List ℕ → (ℕ → List Record → Result A OpFault) → Option ℕ → List Record → Result (Option A) OpFault
member_of members read None rs = Ok None
member_of members read (Some n) rs = read n (member members n rs) >>= λ a. Ok (Some a)

-- the value of a message's oneof, read from the records of the member that is set; none if no member is set; or the first fault
abbrev pub one_of : {A : Type 0} → List ℕ → (ℕ → List Record → Result A OpFault) → List Record → Result (Option A) OpFault
one_of members read rs = member_of members read (chosen members rs) rs

-- ---- checked after all fields are read: whether each repeated field has at most `field_limit` records

-- whether each field whose number is in `repeated` has at most `field_limit` records
abbrev pub within_limits : List ℕ → List Record → Bool
within_limits repeated rs = list_all (λ n. nat_le (length (all n rs)) field_limit) repeated
