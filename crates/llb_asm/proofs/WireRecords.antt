-- A record of llb_ops as the wire spells it.
use Rattle.std.proofs.Common.{◌≡◌, ℕ, ◌*◌, ◌+◌, List, ◌++◌, length, refl, sym, ap, ◌∙◌, append_assoc}
use Rattle.llb_wire.specs.Spelling.{varint_text}
use Rattle.llb_ops.specs.Writing.{set_number, set_bytes}

-- a number in a field is its tag with wire type 0, and then its varint
pub number_spelled : (n v : ℕ) → set_number n v ≡ varint_text (8 * n + 0) ++ varint_text v
unfolding set_number
number_spelled n v = refl

-- bytes in a field are its tag with wire type 2, their length, and the bytes
pub bytes_spelled : (n : ℕ) (b : List ℕ) → set_bytes n b ≡ varint_text (8 * n + 2) ++ (varint_text (length b) ++ b)
unfolding set_bytes
bytes_spelled n b = refl

-- the tag, the length and the bytes, each written after what was there, are the field after it
pub with_record : (out one two three : List ℕ) (n : ℕ) (b : List ℕ) → one ≡ out ++ varint_text (8 * n + 2) → two ≡ one ++ varint_text (length b)
    → three ≡ two ++ b
    → three ≡ out ++ set_bytes n b
with_record out one two three n b e f g =
    g ∙ ap (λ x. x ++ b) (f ∙ ap (λ x. x ++ varint_text (length b)) e)
    ∙ append_assoc (out ++ varint_text (8 * n + 2)) (varint_text (length b)) b
    ∙ append_assoc out (varint_text (8 * n + 2)) (varint_text (length b) ++ b)
    ∙ ap (λ x. out ++ x) (sym (bytes_spelled n b))
