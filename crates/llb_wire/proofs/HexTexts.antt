-- The hexadecimal text of bytes is hexadecimal, and the bytes are read from it; which texts spell bytes.
use Rattle.std.proofs.Common.{◌≡◌, ℕ, zero, suc, ◌/◌, ◌<◌, ◌%◌, ◌&&◌, ◌||◌, not, nat_eq, Bool, true, false, cond, inl, inr, List, []}
use Rattle.std.proofs.Common.{◌∷◌, length, get_or, is_some, Some, None, Result, Ok, Err, refl, sym, ap, ◌∙◌, arith}
use Rattle.std.specs.Prelude.{codes}
use Rattle.std.specs.List.{list_all}
use Rattle.std.proofs.lemmas.List.Sums.{AllPass-from_list_all, list_all-from_AllPass}
use Rattle.std.specs.Cmp.Lexicographic.{pointwise}
use Rattle.std.proofs.lemmas.Bool.{and_parts, cases_lt, ne_eqb, eq-eqb}
use Rattle.std.specs.Result.{result_ok}
use Rattle.hex.specs.Hex.{encode_with, encode_lower, lower_digits, is_hex_digit, decode_of, IsBytes}
use Rattle.hex.specs.declared.error.FromHexError.{FromHexError}
use Rattle.hex.proofs.HexLemmas.{length-encode_with, decode_of-encode_lower, decode_of-digits, decode_of-ok}
use Rattle.llb_wire.specs.Spelling.{AreBytes}
use Rattle.llb_wire.specs.Hexadecimal.{is_lower, is_hex, bytes_in, hex_text}

-- bytes as `hex` says it: at each place a number below 256, 0 past the end
byte_at : (content : List ℕ) → AreBytes content → IsBytes content
byte_at [] bytes k = omega arith
byte_at (b ∷ content) bytes zero = bytes.0
byte_at (b ∷ content) bytes (suc k) = byte_at content bytes.1 k

-- the digits of some bytes are not the text `-`, which is written for no bytes
no_dash : (b : ℕ) (content : List ℕ) → pointwise nat_eq (encode_lower (b ∷ content)) (codes "-") ≡ false
unfolding encode_with
no_dash b content = and_false (nat_eq (get_or lower_digits (b / 16) 0) 45)
  where
    and_false : (t : Bool) → (t && false) ≡ false
    and_false true = refl
    and_false false = refl

-- the bytes that a text is written for are read from it
pub content_is : (content : List ℕ) → AreBytes content → bytes_in (hex_text content) ≡ Some content
content_is [] bytes = refl
content_is (b ∷ content) bytes =
    ap (λ t. cond t (Some []) (result_ok (decode_of (encode_lower (b ∷ content))))) (no_dash b content)
    ∙ ap result_ok (decode_of-encode_lower (b ∷ content) (byte_at (b ∷ content) bytes))

-- whether the first n digits are lowercase
abbrev all_lower : ℕ → Bool
all_lower zero = true
all_lower (suc n) = is_lower (get_or lower_digits n 0) && all_lower n

digit_lower : (n k : ℕ) → all_lower n ≡ true → k < n → is_lower (get_or lower_digits k 0) ≡ true
digit_lower zero k all lt = absurd (omega arith)
digit_lower (suc n) k all lt =
    let both = and_parts (is_lower (get_or lower_digits n 0)) (all_lower n) all in
    elim (cases_lt k n) [
      | inl below ↦ digit_lower n k both.1 below
      | inr top ↦ let e : k ≡ n = omega arith in ap (λ j. is_lower (get_or lower_digits j 0)) e ∙ both.0
    ]

encode_lower_all : (content : List ℕ) → AreBytes content → list_all is_lower (encode_with lower_digits content) ≡ true
unfolding encode_with
encode_lower_all [] bytes = refl
encode_lower_all (b ∷ content) bytes =
    let small : b < 256 = bytes.0 in
    λ i. digit_lower 16 (b / 16) refl (omega arith) i && (digit_lower 16 (b % 16) refl (omega arith) i && encode_lower_all content bytes.1 i)

-- the text that is written for bytes is hexadecimal
pub is_content_text : (content : List ℕ) → AreBytes content → is_hex (hex_text content) ≡ true
is_content_text [] bytes = refl
is_content_text (b ∷ content) bytes =
    let long = length-encode_with lower_digits (b ∷ content) in
    let some = ne_eqb (length (encode_lower (b ∷ content))) 0 (λ e. omega (arith, e, long)) in
    let even = eq-eqb (length (encode_lower (b ∷ content)) % 2) 0 (omega (arith, long)) in
    λ i. no_dash b content i || (not (some i) && even i && encode_lower_all (b ∷ content) bytes i)

-- an even number of digits spells bytes
pub digits_spell : (text : List ℕ) → length text % 2 ≡ 0 → list_all is_hex_digit text ≡ true → is_some (bytes_in text) ≡ true
digits_spell text even all =
    let read = decode_of-digits text even (AllPass-from_list_all is_hex_digit text all) in
    either (pointwise nat_eq text (codes "-")) (decode_of text) (ap (λ d. is_some (result_ok d)) read.1)
  where
    either : (dash : Bool) (d : Result (List ℕ) FromHexError) → is_some (result_ok d) ≡ true → is_some (cond dash (Some []) (result_ok d)) ≡ true
    either true d some = refl
    either false d some = some

-- what `decode` refuses spells no bytes, if it is no dash
pub refused_spells_nothing : (text : List ℕ) (e : FromHexError) → pointwise nat_eq text (codes "-") ≡ false → decode_of text ≡ Err e → bytes_in text ≡ None
refused_spells_nothing text e other refused =
    ap (λ t. cond t (Some []) (result_ok (decode_of text))) other ∙ ap result_ok refused

-- what has another byte than digits spells no bytes, if it is no dash
pub others_spell_nothing : (text : List ℕ) → pointwise nat_eq text (codes "-") ≡ false → list_all is_hex_digit text ≡ false → bytes_in text ≡ None
others_spell_nothing text other bad = by_cases (decode_of text) refl
  where
    by_cases : (d : Result (List ℕ) FromHexError) → decode_of text ≡ d → bytes_in text ≡ None
    by_cases (Ok bytes) e = cc (sym bad ∙ list_all-from_AllPass is_hex_digit text (decode_of-ok text bytes e).1)
    by_cases (Err fault) e = refused_spells_nothing text fault other e
