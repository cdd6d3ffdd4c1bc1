-- Bytes as they are written in texts: lower-case hexadecimal, two digits for each byte, and a dash for no bytes.
use Rattle.std.specs.Prelude.{ℕ, ◌%◌, ◌==◌, ◌&&◌, ◌||◌, not, nat_le, nat_eq, Bool, if◌then◌else◌, List, [], ◌∷◌, length, codes, Option, Some}
use Rattle.std.specs.List.{list_all}
use Rattle.std.specs.Cmp.Lexicographic.{pointwise}
use Rattle.std.specs.Result.{result_ok}
use Rattle.hex.specs.Hex.{encode_lower, decode_of}

-- the text that is written for bytes
abbrev pub hex_text : List ℕ → List ℕ
hex_text [] = codes "-"
hex_text (b ∷ bytes) = encode_lower (b ∷ bytes)

-- whether a byte is a decimal digit or one of `a` to `f`
abbrev pub is_lower : ℕ → Bool
is_lower b = (nat_le 48 b && nat_le b 57) || (nat_le 97 b && nat_le b 102)

-- whether a text is a dash, or one or more pairs of lower-case hexadecimal digits
abbrev pub is_hex : List ℕ → Bool
is_hex text = pointwise nat_eq text (codes "-") || (not (length text == 0) && (length text % 2 == 0) && list_all is_lower text)

-- the bytes that pairs of hexadecimal digits spell; for a dash the empty list; nothing for any other text
abbrev pub bytes_in : List ℕ → Option (List ℕ)
bytes_in text = if pointwise nat_eq text (codes "-") then Some [] else result_ok (decode_of text)
