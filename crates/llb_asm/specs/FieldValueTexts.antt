-- How the values of fields are spelled: how a text is read, and the one text that is written for a value.
use Rattle.std.specs.Prelude.{◌≡◌, ◌≢◌, ◌<◌, ◌≤◌, ℕ, ◌-◌, ◌+◌, ◌*◌, ◌^◌, ◌==◌, ◌&&◌, ◌||◌, nat_lt, nat_le, if◌then◌else◌, true}
use Rattle.std.specs.Prelude.{false, List, [], ◌∷◌, ◌++◌, length, codes, Option, Some, None, option_map}
use Rattle.std.specs.List.{list_all, flat_map}
use Rattle.std.specs.Str.{is_utf8}
use Rattle.std.specs.Fmt.{decimal}
use denote.Ref.{Bor}
use Rattle.hex.specs.Hex.{encode_lower}
use Rattle.llb_wire.specs.Hexadecimal.{is_hex, bytes_in, is_lower, hex_text}
use Rattle.llb_wire.specs.Spelling.{AreBytes}
use Rattle.llb_wire.specs.TextComparison.{is_text, where_so, then_in}
use Rattle.llb_wire.specs.Decimal.{magnitude, below}
use Rattle.llb_ops.specs.CanonicalFields.{IsNumberOf}
use Rattle.llb_ops.specs.declared.table.FieldKind.{FieldKind}
use Rattle.llb_ops.specs.declared.table.FieldKind.TheVariants.{Int64, Int32, Uint32, Enum, Bool as Flag, String, Bytes, Message}

-- ---- numbers as they are in a varint: negative numbers in two's complement of 64 bits

-- -n in two's complement of 64 bits, if n is from 1 to the limit; else nothing
abbrev pub negated : ℕ → ℕ → Option ℕ
negated limit n = where_so (nat_lt 0 n && nat_le n limit) (2 ^ 64 - n)

-- the number from -limit to limit - 1 that a text spells, in two's complement; the text is decimal digits, perhaps after a minus, but `-0` spells no number
unfoldable pub signed_in : ℕ → List ℕ → Option ℕ
signed_in limit [] = None
signed_in limit (b ∷ text) = if b == 45 then then_in (magnitude text) (negated limit) else then_in (magnitude (b ∷ text)) (below limit)

-- 1 for `true`, 0 for `false`, and nothing for any other text
abbrev pub flag_in : List ℕ → Option ℕ
flag_in text = if is_text text (codes "true") then Some 1 else where_so (is_text text (codes "false")) 0

-- the number that a text spells for a field of this kind, as the field's varint has it; nothing if the text spells no number
abbrev pub number_in : FieldKind → List ℕ → Option ℕ
number_in Int64 text = signed_in (2 ^ 63) text
number_in Int32 text = signed_in (2 ^ 31) text
number_in Uint32 text = then_in (magnitude text) (below (2 ^ 32))
number_in Enum text = signed_in (2 ^ 31) text
number_in Flag text = flag_in text
number_in String text = None
number_in Bytes text = None
number_in (Message m) text = None

-- the decimal text of v, a number below 2^64 in two's complement: with a minus in front if v is 2^63 or more
abbrev pub signed_text : ℕ → List ℕ
signed_text v = if nat_lt v (2 ^ 63) then decimal v else 45 ∷ decimal (2 ^ 64 - v)

-- the text of a flag: `false` for 0, `true` for any other number
abbrev pub flag_text : ℕ → List ℕ
flag_text v = if v == 0 then codes "false" else codes "true"

-- the text that is written for v, the number in the varint of a field of this kind; empty for the kinds that hold no number
abbrev pub number_text : FieldKind → ℕ → List ℕ
number_text Int64 v = signed_text v
number_text Int32 v = signed_text v
number_text Uint32 v = signed_text v
number_text Enum v = signed_text v
number_text Flag v = flag_text v
number_text String v = []
number_text Bytes v = []
number_text (Message m) v = []

-- ---- strings, between quotes

-- the state of reading a string: outside an escape, after a backslash, after `\x`, or after `\x` and a digit with this value
pub data Escape : Type 0 where
  closed : Escape
  backslash : Escape
  first : Escape
  second : ℕ → Escape

-- the value of a lower-case hexadecimal digit
abbrev pub digit_of : ℕ → ℕ
digit_of b = if nat_le b 57 then b - 48 else b - 87

-- the given string with byte b in front; nothing if no string is given
abbrev pub after_it : ℕ → Option (List ℕ) → Option (List ℕ)
after_it b text = option_map (λ t. b ∷ t) text

-- the string that the rest of a text spells from this state up to a quote at the text's end: `\"`, `\\`, and `\x` with two digits up to 7f are one byte each
unfoldable pub string_from : Escape → List ℕ → Option (List ℕ)
string_from e [] = None
string_from closed (b ∷ text) =
    if b == 34 then where_so (length text == 0) []
    else if b == 92 then string_from backslash text
    else after_it b (string_from closed text)
string_from backslash (b ∷ text) =
    if (b == 34) || (b == 92) then after_it b (string_from closed text)
    else if b == 120 then string_from first text
    else None
string_from first (b ∷ text) = if is_lower b && nat_lt (digit_of b) 8 then string_from (second (digit_of b)) text else None
string_from (second d) (b ∷ text) = if is_lower b then after_it (16 * d + digit_of b) (string_from closed text) else None

-- the value of a lower-case hexadecimal digit, if the byte is one
abbrev pub lower_digit : ℕ → Option ℕ
lower_digit b = where_so (is_lower b) (digit_of b)

-- the byte that two lower-case hexadecimal digits after `\x` spell, if it is at most 7f
abbrev pub escape_of : ℕ → ℕ → Option ℕ
escape_of a b = where_so (is_lower a && is_lower b && nat_lt (digit_of a) 8) (16 * digit_of a + digit_of b)

-- e: how much of an escape is read. If a byte and a shorter text are given, the text spells that byte and then what that text spells; else it spells no string
abbrev pub Continues : Escape → List ℕ → Option (ℕ × Bor (List ℕ)) → Type 0
Continues e text None = string_from e text ≡ None
Continues e text (Some x) = (string_from e text ≡ after_it x.0 (string_from closed x.1.now)) × (length x.1.now < length text)

-- the text, outside an escape, spells the given byte and then what the given shorter text spells; or nothing is given, and it is `"` or spells no string
abbrev pub Leads : List ℕ → Option (ℕ × Bor (List ℕ)) → Type 0
Leads text None = (text ≢ 34 ∷ []) → string_from closed text ≡ None
Leads text (Some x) = (string_from closed text ≡ after_it x.0 (string_from closed x.1.now)) × (length x.1.now < length text)

-- the string that a text spells between its quotes
unfoldable pub string_in : List ℕ → Option (List ℕ)
string_in [] = None
string_in (b ∷ text) = if b == 34 then string_from closed text else None

-- a byte as it is written in a string: quotes, backslashes and control characters are escaped
abbrev pub escaped : ℕ → List ℕ
escaped b =
    if (b == 34) || (b == 92) then 92 ∷ b ∷ []
    else if nat_lt b 32 || (b == 127) then 92 ∷ 120 ∷ encode_lower (b ∷ [])
    else b ∷ []

-- the text that is written for a string: a quote, the bytes of the string, some of them escaped, and a quote
unfoldable pub string_text : List ℕ → List ℕ
string_text s = 34 ∷ (flat_map escaped s ++ 34 ∷ [])

-- ---- bytes, in lower-case hexadecimal, `-` for none

-- the bytes that a text spells, if it is lower-case hexadecimal or `-`
unfoldable pub bytes_spelled : List ℕ → Option (List ℕ)
bytes_spelled text = if is_hex text then bytes_in text else None

-- ---- the label of an entry: `%` and its number

-- the number in a label, which is `%` and decimal digits; nothing for any other text
unfoldable pub label_in : List ℕ → Option ℕ
label_in [] = None
label_in (b ∷ text) = if b == 37 then magnitude text else None

-- the label of entry k: `%` and k in decimal without leading zeros
abbrev pub label_text : ℕ → List ℕ
label_text k = 37 ∷ decimal k

-- ---- what is written is read again

-- the text that is written for a value is read as that value, and no string is written like a label
pub record ValuesAreReadBack : Type 0 where
  pub number_back : (kind : FieldKind) (v : ℕ) → IsNumberOf kind v → number_in kind (number_text kind v) ≡ Some v
  pub string_back : (s : List ℕ) → string_in (string_text s) ≡ Some s
  pub bytes_back : (b : List ℕ) → AreBytes b → bytes_spelled (hex_text b) ≡ Some b
  pub label_back : (k : ℕ) → k < 2 ^ 64 → label_in (label_text k) ≡ Some k
  pub string_no_label : (s : List ℕ) → label_in (string_text s) ≡ None

-- ---- what is written fits on one line

-- the text starts with a byte of 0x21 or more, so with no blank
pub record BeginsSolid (t : List ℕ) : Type 0 where
  pub byte : ℕ
  pub behind : List ℕ
  pub is : t ≡ byte ∷ behind
  pub above : 33 ≤ byte

-- the text ends with a byte of 0x21 or more, so with no blank
pub record EndsSolid (t : List ℕ) : Type 0 where
  pub before : List ℕ
  pub byte : ℕ
  pub is : t ≡ before ++ byte ∷ []
  pub above : 33 ≤ byte

-- the text is UTF-8 without bytes below 0x20, so without line ends, and has no blank at either end
pub record IsSolid (t : List ℕ) : Type 0 where
  pub begins : BeginsSolid t
  pub ends : EndsSolid t
  pub plain : list_all (λ b. nat_le 32 b) t ≡ true
  pub utf8 : is_utf8 t ≡ true

-- the text that is written for any value is UTF-8 without bytes below 0x20, and has no blank at either end (`IsSolid`)
pub record ValuesAreSolid : Type 0 where
  pub number_solid : (kind : FieldKind) (v : ℕ) → IsNumberOf kind v → IsSolid (number_text kind v)
  pub string_solid : (s : List ℕ) → is_utf8 s ≡ true → IsSolid (string_text s)
  pub bytes_solid : (b : List ℕ) → AreBytes b → IsSolid (hex_text b)
  pub label_solid : (k : ℕ) → k < 2 ^ 64 → IsSolid (label_text k)
