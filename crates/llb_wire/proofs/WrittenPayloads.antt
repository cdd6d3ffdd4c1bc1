-- The payload of a record as it is written: it consists of bytes, and no spelling of the same payload has fewer bytes.
use Rattle.std.proofs.Common.{◌≡◌, ℕ, ◌+◌, ◌^◌, ◌<◌, ◌≤◌, List}
use Rattle.std.proofs.Common.{length, ap, subst, ◌∙◌, arith}
use Rattle.std.proofs.lemmas.List.{length-append}
use Rattle.llb_wire.specs.declared.field.Wire.{Wire}
use Rattle.llb_wire.specs.declared.field.Wire.TheVariants as wire
use Rattle.llb_wire.specs.Spelling.{AreBytes, varint_text, payload_text, value_text}
use Rattle.llb_wire.specs.Records.{IsPayload}
use Rattle.llb_wire.proofs.Varints.{is_shortest, least_spelling, are_bytes-append, are_bytes-front}

-- what is written for a payload consists of bytes
pub written_bytes : (w : Wire) (value : ℕ) (payload : List ℕ) → value < 2 ^ 64 → length payload < 2 ^ 64 → AreBytes payload
    → AreBytes (payload_text w value payload)
written_bytes wire.Varint value payload small len are = (is_shortest value small).bytes
written_bytes wire.I64 value payload small len are =
    (omega arith, (omega arith, (omega arith, (omega arith, (omega arith, (omega arith, (omega arith, (omega arith, tt))))))))
written_bytes wire.Len value payload small len are = are_bytes-append (varint_text (length payload)) payload (is_shortest (length payload) len).bytes are
written_bytes wire.I32 value payload small len are = (omega arith, (omega arith, (omega arith, (omega arith, tt))))

-- what is written for a payload has at most as many bytes as any spelling of this payload
pub least_payload : (w : Wire) (value : ℕ) (payload behind own : List ℕ) → AreBytes behind
    → IsPayload w behind (value_text w value payload) own → length (payload_text w value payload) ≤ length behind
least_payload wire.Varint value payload behind own are h = least_spelling 9 value behind are h.1.spells
least_payload wire.I64 value payload behind own are h = omega (arith, h.1.size)
least_payload wire.Len value payload behind own are h =
    let count = h.0 in
    let size : length behind ≡ length count + length own = ap length h.1 ∙ length-append count own in
    let front : AreBytes count = are_bytes-front count own (subst AreBytes h.1 are) in
    omega (arith, least_spelling 9 (length payload) count front h.2.spells, size, h.3, length-append (varint_text (length payload)) payload)
least_payload wire.I32 value payload behind own are h = omega (arith, h.1.size)
