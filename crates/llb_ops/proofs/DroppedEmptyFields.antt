-- Fields without the empty keys and values of entries have no more bytes.
use Rattle.std.proofs.Common.{◌≡◌, ℕ, zero, suc, ◌/◌, ◌≤◌, Bool, true, false, ltb, List, ◌++◌, length, refl, arith}
use Rattle.std.specs.Prelude.{◌&&◌, ◌==◌}
use Rattle.std.proofs.lemmas.Bool.{ltb-true, ltb-false}
use Rattle.std.proofs.lemmas.List.{length-append}
use Rattle.llb_wire.specs.declared.field.Wire.TheVariants as wire
use Rattle.llb_wire.specs.Spelling.{shortest, varint_text, tag_text}
use Rattle.llb_ops.specs.Writing.{set_number, set_bytes}
use Rattle.llb_ops.specs.CanonicalFields.{Fields, extra, number, bytes, message, bytes_of, without_empty}

-- the spelling of a smaller number is not longer
smaller : (more j k : ℕ) → j ≤ k → length (shortest more j) ≤ length (shortest more k)
unfolding shortest
smaller zero j k le = omega arith
smaller (suc more) j k le = go (ltb j 128) (ltb k 128) refl refl (smaller more (j / 128) (k / 128) (omega (arith, le))) where
  go : (a b : Bool) → ltb j 128 ≡ a → ltb k 128 ≡ b → length (shortest more (j / 128)) ≤ length (shortest more (k / 128))
      → length (shortest (suc more) j) ≤ length (shortest (suc more) k)
  go true true e f rest = rw (e, f) (omega arith)
  go true false e f rest = rw (e, f) (omega arith)
  go false true e f rest = absurd (omega (arith, le, ltb-false j 128 e, ltb-true k 128 f))
  go false false e f rest = rw (e, f) (omega (arith, rest))

shorter_field : (n : ℕ) (a b : List ℕ) → length a ≤ length b → length (set_bytes n a) ≤ length (set_bytes n b)
unfolding set_bytes
shorter_field n a b le =
    let tag = tag_text n wire.Len in
    let spelling = smaller 9 (length a) (length b) le in
    omega (
      arith,
      le,
      spelling,
      length-append tag (varint_text (length a) ++ a),
      length-append tag (varint_text (length b) ++ b),
      length-append (varint_text (length a)) a,
      length-append (varint_text (length b)) b,
    )

-- fields have no more bytes once the empty keys and values of entries are left out
pub shorter : (fs : Fields) → length (bytes_of (without_empty fs)) ≤ length (bytes_of fs)
shorter (extra more) = omega arith
shorter (number row v rest) =
    omega (
      arith,
      shorter rest,
      length-append (set_number row.1.number v) (bytes_of (without_empty rest)),
      length-append (set_number row.1.number v) (bytes_of rest),
    )
shorter (bytes row held rest) = go (row.1.of_entry && (length held == 0)) refl (shorter rest) where
  go : (b : Bool) → row.1.of_entry && (length held == 0) ≡ b → length (bytes_of (without_empty rest)) ≤ length (bytes_of rest)
      → length (bytes_of (without_empty (bytes row held rest))) ≤ length (bytes_of (bytes row held rest))
  go true e h = rw e (omega (arith, h, length-append (set_bytes row.1.number held) (bytes_of rest)))
  go false e h = rw e (omega (
    arith,
    h,
    length-append (set_bytes row.1.number held) (bytes_of (without_empty rest)),
    length-append (set_bytes row.1.number held) (bytes_of rest),
  ))
shorter (message row inner rest) =
    let full = bytes_of inner in
    let lean = bytes_of (without_empty inner) in
    omega (
      arith,
      shorter rest,
      shorter_field row.1.number lean full (shorter inner),
      length-append (set_bytes row.1.number lean) (bytes_of (without_empty rest)),
      length-append (set_bytes row.1.number full) (bytes_of rest),
    )
