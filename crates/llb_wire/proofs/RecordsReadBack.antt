-- A record that was written is read again, whatever follows it, as what was asked to be written.
use Rattle.std.proofs.Common.{◌≡◌, ℕ, ◌+◌, ◌-◌, ◌^◌, ◌<◌, List, ◌++◌, length, Ok, ap, ◌∙◌, zero-add, arith}
use Rattle.std.proofs.lemmas.List.{length-append}
use Rattle.llb_wire.specs.declared.field.Wire.{Wire}
use Rattle.llb_wire.specs.declared.field.Wire.TheVariants as wire
use Rattle.llb_wire.specs.Reading.{field_at, as_field}
use Rattle.llb_wire.specs.Spelling.{varint_text, tag_text, payload_text, record_text, value_text, payload_start, written_field, IsFieldNumber}
use Rattle.llb_wire.specs.Records.{own_text, written_record}
use Rattle.llb_wire.proofs.SpelledRecords.{record_read, written_is_record}

-- where the payload's own bytes begin
begins : (number : ℕ) (w : Wire) (value : ℕ) (payload : List ℕ)
    → 0 + (length (record_text number w value payload) - length (own_text w value payload)) ≡ length (tag_text number w) + payload_start w payload
begins number w value payload = omega (arith, length-append (tag_text number w) (payload_text w value payload), behind w value payload) where
  behind : (w : Wire) (value : ℕ) (payload : List ℕ) → length (payload_text w value payload) ≡ payload_start w payload + length (own_text w value payload)
  behind wire.Varint value payload = omega arith
  behind wire.I64 value payload = omega arith
  behind wire.Len value payload = length-append (varint_text (length payload)) payload
  behind wire.I32 value payload = omega arith

-- a record that is written and then followed by anything is read as its own number, wire type and value
pub record_again : (number : ℕ) (w : Wire) (value : ℕ) (payload rest : List ℕ) → IsFieldNumber number → value < 2 ^ 64
    → length payload < 2 ^ 64 → (w ≡ wire.I32 → value < 2 ^ 32)
    → field_at (record_text number w value payload ++ rest) 0 ≡ Ok (written_field number w value payload)
record_again number w value payload rest named small len narrow =
    let size = length (record_text number w value payload) in
    record_read (written_record number w value payload) rest (written_is_record number w value payload named small len narrow)
    ∙ ap (λ (k : ℕ). Ok (as_field number w k (value_text w value payload, 0 + size))) (begins number w value payload)
    ∙ ap (λ (k : ℕ). Ok (as_field number w (length (tag_text number w) + payload_start w payload) (value_text w value payload, k))) (zero-add size)
