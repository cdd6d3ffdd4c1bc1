-- Hexadecimal digits are text.
use Rattle.std.proofs.Common.{◌≡◌, ℕ, zero, suc, ◌/◌, ◌<◌, ◌%◌, ◌&&◌, ◌||◌, ◌==◌, not, nat_eq, nat_le, Bool, true, false, cond, inl, inr, List, []}
use Rattle.std.proofs.Common.{◌∷◌, length, get_or, Some, None, refl, sym, ap, ◌∙◌, subst, arith}
use Rattle.std.specs.Prelude.{codes}
use Rattle.std.specs.List.{list_all}
use Rattle.std.specs.Str.{IsUtf8}
use Rattle.std.specs.Cmp.Lexicographic.{pointwise, bytes_decides}
use Rattle.std.proofs.lemmas.Bool.{and_parts, or_cases, leb-true, cases_Bool, cases_lt, ne_eqb, eq-eqb}
use Rattle.std.proofs.lemmas.Str.{IsUtf8-from_ascii}
use Rattle.std.proofs.lemmas.Str.Ascii.{IsAscii-nil, IsAscii-cons}
use Rattle.std.specs.Str.{IsAscii}
use Rattle.std.specs.Result.{result_ok}
use Rattle.hex.specs.Hex.{encode_with, encode_lower, lower_digits, decode_of, IsBytes}
use Rattle.hex.proofs.HexLemmas.{length-encode_with, decode_of-encode_lower}
use Rattle.llb_wire.specs.Spelling.{AreBytes}
use Rattle.llb_wire.specs.Hexadecimal.{is_lower, is_hex, bytes_in, hex_text}
use Rattle.llb_wire.proofs.HexTexts.{content_is, is_content_text}
use Rattle.llb_asm.specs.FieldValueTexts.{bytes_spelled}

lower_small : (b : ℕ) → is_lower b ≡ true → b < 128
lower_small b is = elim (or_cases (nat_le 48 b && nat_le b 57) (nat_le 97 b && nat_le b 102) is) [
  | inl digit ↦ omega (arith, leb-true b 57 (and_parts (nat_le 48 b) (nat_le b 57) digit).1)
  | inr letter ↦ omega (arith, leb-true b 102 (and_parts (nat_le 97 b) (nat_le b 102) letter).1)
]

lower_ascii : (text : List ℕ) → list_all is_lower text ≡ true → IsAscii text
lower_ascii [] all = IsAscii-nil
lower_ascii (b ∷ text) all =
    let both = and_parts (is_lower b) (list_all is_lower text) all in
    IsAscii-cons b text (lower_small b both.0) (lower_ascii text both.1)

pub is_hex-IsUtf8 : (text : List ℕ) → is_hex text ≡ true → IsUtf8 text
is_hex-IsUtf8 text is = elim (or_cases (pointwise nat_eq text (codes "-")) (not (length text == 0) && (length text % 2 == 0) && list_all is_lower text) is) [
  | inl dash ↦ subst IsUtf8 (sym ((bytes_decides text (codes "-")).0 dash)) (IsUtf8-from_ascii (codes "-") (IsAscii-cons 45 [] (omega arith) IsAscii-nil))
  | inr digits ↦ IsUtf8-from_ascii text (lower_ascii text (all_of (not (length text == 0)) (length text % 2 == 0) (list_all is_lower text) digits))
]
  where
    all_of : (a b d : Bool) → (a && b && d) ≡ true → d ≡ true
    all_of true true d is = is
    all_of true false d is = absurd cc
    all_of false b d is = absurd cc

-- what is no text is no hexadecimal
pub no_text_spells : (text : List ℕ) → (IsUtf8 text → ⊥) → None ≡ bytes_spelled text
unfolding bytes_spelled
no_text_spells text none = elim (cases_Bool (is_hex text)) [
  | inl is ↦ absurd (none (is_hex-IsUtf8 text is))
  | inr other ↦ sym (ap (λ t. cond t (bytes_in text) None) other)
]

-- ---- what is written is read

pub bytes_back : (b : List ℕ) → AreBytes b → bytes_spelled (hex_text b) ≡ Some b
unfolding bytes_spelled
bytes_back b bytes = ap (λ t. cond t (bytes_in (hex_text b)) None) (is_content_text b bytes) ∙ content_is b bytes
