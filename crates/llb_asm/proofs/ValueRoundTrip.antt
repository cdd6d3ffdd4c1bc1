-- What is written for a value is read as the value.
use Rattle.std.proofs.Common.{◌≡◌, ℕ, ◌+◌, ◌*◌, ◌/◌, ◌%◌, ◌^◌, ◌<◌, ◌⊎◌, nat_lt, ◌==◌, ◌&&◌, Bool, true, false, cond, inl, inr, List, [], ◌∷◌, ◌++◌}
use Rattle.std.proofs.Common.{length, get_or, Some, None, refl, sym, ap, ◌∙◌, arith, append_assoc}
use Rattle.std.specs.List.{flat_map}
use Rattle.std.proofs.lemmas.Bool.{agree_below_at, and_parts, eqb-true}
use Rattle.hex.specs.Hex.{encode_with, encode_lower, lower_digits}
use Rattle.llb_wire.specs.Hexadecimal.{is_lower, hex_text}
use Rattle.llb_wire.specs.Spelling.{AreBytes}
use Rattle.llb_ops.specs.declared.table.FieldKind.{FieldKind}
use Rattle.llb_ops.specs.CanonicalFields.{IsNumberOf}
use Rattle.llb_asm.specs.FieldValueTexts.{closed, backslash, digit_of, after_it, string_from, string_in, string_text, escaped, number_in}
use Rattle.llb_wire.specs.TextComparison.{where_so}
use Rattle.llb_asm.specs.FieldValueTexts.{number_text, bytes_spelled, label_in, label_text, ValuesAreReadBack}
use Rattle.llb_asm.proofs.Escapes.{escaped_by}
use Rattle.llb_asm.proofs.NumberTexts as numbers
use Rattle.llb_asm.proofs.HexadecimalDigits as hexadecimal

-- the text of a number is read as the number, by its kind
pub number_back : (kind : FieldKind) (v : ℕ) → IsNumberOf kind v → number_in kind (number_text kind v) ≡ Some v
number_back kind v is = numbers.number_back kind v is

-- the hexadecimal digits of bytes, or a dash for none, are read as the bytes
pub bytes_back : (b : List ℕ) → AreBytes b → bytes_spelled (hex_text b) ≡ Some b
bytes_back b bytes = hexadecimal.bytes_back b bytes

-- the text of a label is read as the label's number
pub label_back : (k : ℕ) → k < 2 ^ 64 → label_in (label_text k) ≡ Some k
label_back k small = numbers.label_back k small

-- ---- strings

-- the two digits of a byte, and whether a string reads them as that byte
abbrev high : ℕ → ℕ
high b = get_or lower_digits (b / 16) 0

abbrev low : ℕ → ℕ
low b = get_or lower_digits (b % 16) 0

abbrev is_small : ℕ → Bool
is_small b = is_lower (high b) && nat_lt (digit_of (high b)) 8

abbrev value : ℕ → ℕ
value b = 16 * digit_of (high b) + digit_of (low b)

abbrev stands : ℕ → Bool
stands b = is_small b && (is_lower (low b) && (value b == b))

all_stand : (b : ℕ) → b < 128 → stands b ≡ true
all_stand b lt = agree_below_at stands (λ _. true) 128 b refl lt

module _ (text : List ℕ) where
  control_read : (b : ℕ) → b < 128 → string_from closed ((92 ∷ 120 ∷ encode_lower (b ∷ [])) ++ text) ≡ after_it b (string_from closed text)
  unfolding encode_with string_from
  control_read b lt =
      let both = and_parts (is_small b) (is_lower (low b) && (value b == b)) (all_stand b lt) in
      let more = and_parts (is_lower (low b)) (value b == b) both.1 in
      ap (λ t. cond t (cond (is_lower (low b)) (after_it (value b) (string_from closed text)) None) None) both.0
      ∙ ap (λ t. cond t (after_it (value b) (string_from closed text)) None) more.0
      ∙ ap (λ v. after_it v (string_from closed text)) (eqb-true (value b) b more.1)

  itself_read : (b : ℕ) → (b ≡ 34) ⊎ (b ≡ 92) → string_from closed (92 ∷ b ∷ text) ≡ after_it b (string_from closed text)
  unfolding string_from
  itself_read b (inl is) = ap (λ k. string_from closed (92 ∷ k ∷ text)) is ∙ ap (λ k. after_it k (string_from closed text)) (sym is)
  itself_read b (inr is) = ap (λ k. string_from closed (92 ∷ k ∷ text)) is ∙ ap (λ k. after_it k (string_from closed text)) (sym is)

  plain_read : (b : ℕ) → (b == 34) ≡ false → (b == 92) ≡ false → string_from closed (b ∷ text) ≡ after_it b (string_from closed text)
  unfolding string_from
  plain_read b quote slash =
      ap (λ t. cond t (where_so (length text == 0) []) (cond (b == 92) (string_from backslash text) (after_it b (string_from closed text)))) quote
      ∙ ap (λ t. cond t (string_from backslash text) (after_it b (string_from closed text))) slash

  escaped_read : (b : ℕ) → string_from closed (escaped b ++ text) ≡ after_it b (string_from closed text)
  escaped_read b = escaped_by (λ t. string_from closed (t ++ text) ≡ after_it b (string_from closed text)) b
      (itself_read b)
      (λ is. control_read b (elim is [ inl below ↦ omega arith | inr last ↦ omega arith ]))
      (λ quote slash above. plain_read b quote slash)

written_read : (s : List ℕ) → string_from closed (flat_map escaped s ++ 34 ∷ []) ≡ Some s
unfolding string_from
written_read [] = refl
written_read (b ∷ s) =
    ap (string_from closed) (append_assoc (escaped b) (flat_map escaped s) (34 ∷ []))
    ∙ escaped_read (flat_map escaped s ++ 34 ∷ []) b
    ∙ ap (after_it b) (written_read s)

-- the text of a string is read as the string, its escapes undone
pub string_back : (s : List ℕ) → string_in (string_text s) ≡ Some s
unfolding string_in string_text
string_back s = written_read s

-- the text of a string begins with a quote, so it is no label
pub string_no_label : (s : List ℕ) → label_in (string_text s) ≡ None
unfolding label_in string_text
string_no_label s = refl

-- each text that is written for a value is read as the value, and a string's is no label
pub values_are_read_back : ValuesAreReadBack
values_are_read_back = record {
  number_back = number_back;
  string_back = string_back;
  bytes_back = bytes_back;
  label_back = label_back;
  string_no_label = string_no_label;
}
