-- Reading a record from left to right, up to the first fault: the tag's varint, the field's number, the wire
-- type, the payload.
use Rattle.std.specs.Prelude.{ℕ, zero, suc, ◌+◌, ◌-◌, ◌*◌, ◌<◌, ◌≤◌, ◌/◌, ◌%◌, List, [], ◌∷◌, length, take, drop, Option, Some, None}
use Rattle.std.specs.Prelude.{Result, Ok, Err, nat_lt, ◌==◌, if◌then◌else◌}
use Rattle.std.specs.Int.{Width, w32, w64, byte_len, from_le_bytes}
use Rattle.llb_wire.specs.CallResults.{◌>>=◌}
use Rattle.llb_wire.specs.declared.field.Wire.{Wire}
use Rattle.llb_wire.specs.declared.field.Wire.TheVariants.{Varint, I64, Len, I32}
use Rattle.llb_wire.specs.declared.field.Field.{Field}
use Rattle.llb_wire.specs.declared.fault.WireFault.{WireFault}
use Rattle.llb_wire.specs.declared.fault.WireFault.TheVariants.{Truncated, LongVarint, BadField, BadWireType}

-- The number and the length of the varint at the start of the bytes, or the fault. It has at most `more` + 1 bytes; if it has `more` + 1, the last is 0 or 1.
unfoldable pub varint_from : ℕ → List ℕ → Result (ℕ × ℕ) WireFault
varint_from more [] = Err Truncated
varint_from zero (b ∷ bs) = if nat_lt 1 b then Err LongVarint else Ok (b, 1)
varint_from (suc more) (b ∷ bs) = if nat_lt b 128 then Ok (b, 1) else (varint_from more bs >>= λ m. Ok (b - 128 + 128 * m.0, suc m.1))

-- 2 times 128 to the power n: the last n + 1 bytes of a varint of ten bytes can spell only numbers below this limit
abbrev pub varint_limit : ℕ → ℕ
varint_limit zero = 2
varint_limit (suc more) = 128 * varint_limit more

-- the number that the varint at a position spells, and the position after the varint; or the fault
abbrev pub varint_at : List ℕ → ℕ → Result (ℕ × ℕ) WireFault
varint_at bytes at = varint_from 9 (drop at bytes) >>= λ m. Ok (m.0, at + m.1)

-- ---- records

-- the number, if a field can have this number (1 to 536870911); else the fault `BadField`
abbrev pub number_of : ℕ → Result ℕ WireFault
number_of n = if n == 0 then Err BadField else if nat_lt 536_870_911 n then Err BadField else Ok n

-- the wire type with this code; the fault `BadWireType` if no wire type has this code
abbrev pub wire_of : ℕ → Result Wire WireFault
wire_of code = if code == 0 then Ok Varint else if code == 1 then Ok I64 else if code == 2 then Ok Len else if code == 5 then Ok I32 else Err BadWireType

-- the number that the bytes at a position spell in a fixed width, and the position after these bytes; the fault `Truncated` if there are too few bytes
abbrev pub fixed_at : Width → List ℕ → ℕ → Result (ℕ × ℕ) WireFault
fixed_at w bytes at = if nat_lt (length (drop at bytes)) (byte_len w) then
    Err Truncated else Ok (from_le_bytes w (take (byte_len w) (drop at bytes)), at + byte_len w)

-- the `Field` with this number and wire type, whose payload begins at `start`; `v` is the pair of the field's value and the position after the payload
abbrev pub as_field : ℕ → Wire → ℕ → ℕ × ℕ → Field
as_field number wire start v = record { number = number; wire = wire; value = v.0; start = start; «end» = v.1 }

-- the record whose tag ends at a position, as a `Field`; or the first fault of its payload
unfoldable pub payload_at : ℕ → Wire → List ℕ → ℕ → Result Field WireFault
payload_at number Varint bytes at = varint_at bytes at >>= λ v. Ok (as_field number Varint at v)
payload_at number I64 bytes at = fixed_at w64 bytes at >>= λ v. Ok (as_field number I64 at v)
payload_at number Len bytes at = varint_at bytes at >>= λ len. if nat_lt (length bytes - len.1) len.0 then
    Err Truncated else Ok (as_field number Len len.1 (len.0, len.1 + len.0))
payload_at number I32 bytes at = fixed_at w32 bytes at >>= λ v. Ok (as_field number I32 at v)

-- the record that begins at a position, as a `Field`; or the first fault of its bytes
unfoldable pub field_at : List ℕ → ℕ → Result Field WireFault
field_at bytes at = do
  tag ← varint_at bytes at
  number ← number_of (tag.0 / 8)
  wire ← wire_of (tag.0 % 8)
  payload_at number wire bytes tag.1

-- the record that begins at a position, as a `Field`, or the first fault of its bytes; nothing if the position is the end of all bytes
unfoldable pub next_field : List ℕ → ℕ → Result (Option Field) WireFault
next_field bytes at = if at == length bytes then Ok None else (field_at bytes at >>= λ f. Ok (Some f))

-- the payload of the record f, which was read at position `at`, begins after that position and ends within the bytes
pub record IsWithin (bytes : List ℕ) (at : ℕ) (f : Field) : Type 0 where
  pub begins : at < f.start
  pub ordered : f.start ≤ f.«end»
  pub inside : f.«end» ≤ length bytes
