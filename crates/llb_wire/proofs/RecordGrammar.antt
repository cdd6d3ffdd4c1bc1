-- Whatever the grammar spells as a record is read as that record.
use Rattle.std.proofs.Common.{◌≡◌, ℕ, ◌+◌, ◌-◌, ◌*◌, false, ltb, List, length, take, drop, Result, Ok, refl, sym, ap, ◌∙◌, arith}
use Rattle.std.proofs.lemmas.Bool.{le-ltb}
use Rattle.std.proofs.lemmas.List.{length-drop}
use Rattle.std.specs.Int.{Width, w32, w64, byte_len, from_le_bytes}
use Rattle.llb_wire.specs.declared.fault.WireFault.{WireFault}
use Rattle.llb_wire.specs.declared.field.Wire.{Wire}
use Rattle.llb_wire.specs.declared.field.Wire.TheVariants as wire
use Rattle.llb_wire.specs.declared.field.Field.{Field}
use Rattle.llb_wire.specs.Reading.{fixed_at, as_field, payload_at, field_at}
use Rattle.llb_wire.specs.Spelling.{code_of, FixedAt, PayloadAt, RecordAt}
use Rattle.llb_wire.proofs.Varints.{varint_only}
use Rattle.llb_wire.proofs.SpelledRecords.{number_is, wire_is}

abbrev ok_of : Field → Result Field WireFault
ok_of f = Ok f

fixed_is : (w : Width) (bytes : List ℕ) (at n last : ℕ) → FixedAt w bytes at n last → fixed_at w bytes at ≡ Ok (n, last)
fixed_is w bytes at n last h =
    let enough : ltb (length (drop at bytes)) (byte_len w) ≡ false = le-ltb _ _ (omega (arith, length-drop at bytes, h.size, h.inside)) in
    let width : last - at ≡ byte_len w = omega (arith, h.size) in
    let value : from_le_bytes w (take (byte_len w) (drop at bytes)) ≡ n = ap (λ (k : ℕ). from_le_bytes w (take k (drop at bytes))) (sym width) ∙ sym h.value in
    rw (enough, value, sym h.size) refl

-- a record is its five parts
five_parts : (f : Field) (n : ℕ) (w : Wire) (start last : ℕ) → f.number ≡ n → f.wire ≡ w → f.start ≡ start → f.«end» ≡ last
    → ok_of (as_field n w start (f.value, last)) ≡ ok_of f
five_parts f n w start last num is begin stop = rw (sym num, sym is, sym begin, sym stop) refl

payload_is : (n : ℕ) (w : Wire) (bytes : List ℕ) (at : ℕ) (f : Field) → f.number ≡ n → f.wire ≡ w → PayloadAt w bytes at f → payload_at n w bytes at ≡ Ok f
unfolding payload_at
payload_is n wire.Varint bytes at f num is h = rw (varint_only bytes at f.value f.«end» h.1) (five_parts f n wire.Varint at f.«end» num is h.0 refl)
payload_is n wire.I64 bytes at f num is h = rw (fixed_is w64 bytes at f.value f.«end» h.1) (five_parts f n wire.I64 at f.«end» num is h.0 refl)
payload_is n wire.I32 bytes at f num is h = rw (fixed_is w32 bytes at f.value f.«end» h.1) (five_parts f n wire.I32 at f.«end» num is h.0 refl)
payload_is n wire.Len bytes at f num is h =
    let enough : ltb (length bytes - f.start) f.value ≡ false = le-ltb _ _ (omega (arith, h.1, h.2)) in
    rw (varint_only bytes at f.value f.start h.0, enough) (five_parts f n wire.Len f.start (f.start + f.value) num is refl h.1)

-- a record that the grammar spells at a place is the one that is read there
pub record_only : (bytes : List ℕ) (at : ℕ) (f : Field) → RecordAt bytes at f → field_at bytes at ≡ Ok f
unfolding field_at
record_only bytes at f h =
    rw (varint_only bytes at (8 * f.number + code_of f.wire) h.tag_end h.tag.spelled, number_is f.number f.wire h.tag.named, wire_is f.number f.wire)
    (payload_is f.number f.wire bytes h.tag_end f refl refl h.payload)
