-- What is written for a value fits on one line as it is.
use Rattle.std.proofs.Common.{◌≡◌, ℕ, ◌+◌, ◌-◌, ◌/◌, ◌%◌, ◌^◌, ◌<◌, ◌≤◌, ◌⊎◌, nat_lt, nat_le, ◌==◌, ◌&&◌, Bool, true, inl, inr, List}
use Rattle.std.proofs.Common.{[], ◌∷◌, ◌++◌, length, get_or, refl, sym, ap, subst, arith}
use Rattle.std.specs.Prelude.{codes}
use Rattle.std.specs.List.{All, list_all, flat_map}
use Rattle.std.specs.Str.{IsUtf8, is_utf8, IsAscii}
use Rattle.std.specs.Fmt.{decimal}
use Rattle.std.proofs.Math.Utf8.{encode, encodes, scalar, scalars}
use Rattle.std.proofs.lemmas.Bool.{agree_below_at, cases_lt, and_parts, cond_both, le-leb, leb-true, ltb-true, ltb-false}
use Rattle.std.proofs.lemmas.List.{append-nil, get_or_past}
use Rattle.std.proofs.lemmas.List.Concat.{flat_map-append}
use Rattle.std.proofs.lemmas.List.Elements.{All-nil, All-cons, All-head, All-tail, All-append, All-weaker, All-from_get_or}
use Rattle.std.proofs.lemmas.List.Sums.{AllPass-from_list_all, list_all-from_AllPass}
use Rattle.std.proofs.lemmas.Fmt.{decimal_by_steps, decimal_nonempty, IsAscii-decimal}
use Rattle.std.proofs.lemmas.Str.{encode_ascii, inside_one, IsUtf8-append, IsUtf8-nil, IsUtf8-from_ascii, IsUtf8-from_is_utf8, is_utf8-from_IsUtf8}
use Rattle.std.proofs.lemmas.Str.Ascii.{IsAscii-nil, IsAscii-cons, IsAscii-from_all}
use Rattle.hex.specs.Hex.{encode_with, encode_lower, lower_digits}
use Rattle.hex.proofs.HexLemmas.{length-encode_with, IsAscii-encode_with}
use Rattle.llb_wire.specs.Spelling.{AreBytes}
use Rattle.llb_wire.specs.Hexadecimal.{hex_text}
use Rattle.llb_ops.specs.declared.table.FieldKind.{FieldKind}
use Rattle.llb_ops.specs.declared.table.FieldKind.TheVariants.{Int64, Int32, Uint32, Enum, Bool as Flag, String, Bytes, Message}
use Rattle.llb_ops.specs.CanonicalFields.{IsNumberOf}
use Rattle.llb_asm.specs.FieldValueTexts.{BeginsSolid, EndsSolid, IsSolid, ValuesAreSolid, signed_text, flag_text, number_text, string_text, escaped}
use Rattle.llb_asm.specs.FieldValueTexts.{label_text}
use Rattle.llb_asm.proofs.Escapes.{escaped_by}
use Rattle.llb_asm.proofs.NumberTexts.{int64_small, int32_range}

-- ---- bytes above a space, and above the control bytes

abbrev Solid : List ℕ → Type 0
Solid t = All (λ b. 33 ≤ b) t

abbrev Plain : List ℕ → Type 0
Plain t = All (λ b. 32 ≤ b) t

-- a text of one word
record IsWord (t : List ℕ) : Type 0 where
  solid : Solid t
  filled : 0 < length t
  ascii : IsAscii t

plain_passes : (t : List ℕ) → Plain t → list_all (λ b. nat_le 32 b) t ≡ true
plain_passes t plain = list_all-from_AllPass (λ b. nat_le 32 b) t (All-weaker (λ b. 32 ≤ b) (λ b. nat_le 32 b ≡ true) (λ b h. le-leb 32 b h) t plain)

solid_plain : (t : List ℕ) → Solid t → Plain t
solid_plain t solid = All-weaker (λ b. 33 ≤ b) (λ b. 32 ≤ b) (λ b h. omega arith) t solid

solid_begins : (t : List ℕ) → Solid t → 0 < length t → BeginsSolid t
solid_begins [] solid filled = absurd (omega arith)
solid_begins (b ∷ t) solid filled = record { byte = b; behind = t; is = refl; above = All-head (λ b. 33 ≤ b) b t solid }

one_more : (b : ℕ) (t : List ℕ) → EndsSolid t → EndsSolid (b ∷ t)
one_more b t e = record { before = b ∷ e.before; byte = e.byte; is = ap (λ x. b ∷ x) e.is; above = e.above }

solid_ends : (t : List ℕ) → Solid t → 0 < length t → EndsSolid t
solid_ends [] solid filled = absurd (omega arith)
solid_ends (b ∷ []) solid filled = record { before = []; byte = b; is = refl; above = All-head (λ b. 33 ≤ b) b [] solid }
solid_ends (b ∷ d ∷ t) solid filled = one_more b (d ∷ t) (solid_ends (d ∷ t) (All-tail (λ b. 33 ≤ b) b (d ∷ t) solid) (omega arith))

word_solid : (t : List ℕ) → IsWord t → IsSolid t
word_solid t w = record {
  begins = solid_begins t w.solid w.filled;
  ends = solid_ends t w.solid w.filled;
  plain = plain_passes t (solid_plain t w.solid);
  utf8 = is_utf8-from_IsUtf8 t (IsUtf8-from_ascii t w.ascii);
}

word_behind : (b : ℕ) (t : List ℕ) → 33 ≤ b → b < 128 → IsWord t → IsWord (b ∷ t)
word_behind b t above below w = record { solid = All-cons (λ b. 33 ≤ b) b t above w.solid; filled = omega arith; ascii = IsAscii-cons b t below w.ascii }

word_by_tests : (t : List ℕ) → list_all (λ b. nat_le 33 b) t ≡ true → list_all (λ b. nat_lt b 128) t ≡ true → 0 < length t → IsWord t
word_by_tests t above below filled = record {
  solid = All-weaker (λ b. nat_le 33 b ≡ true) (λ b. 33 ≤ b) (λ b h. leb-true 33 b h) t (AllPass-from_list_all (λ b. nat_le 33 b) t above);
  filled = filled;
  ascii =
      IsAscii-from_all t
      (All-weaker (λ b. nat_lt b 128 ≡ true) (λ b. b < 128) (λ b h. ltb-true b 128 h) t (AllPass-from_list_all (λ b. nat_lt b 128) t below));
}

-- ---- numbers

decimal_solid : (n : ℕ) → n < 2 ^ 64 → Solid (decimal n)
decimal_solid n small = decimal_by_steps (λ n ds. Solid ds)
    (λ n lt. All-cons (λ b. 33 ≤ b) (48 + n) [] (omega arith) (All-nil (λ b. 33 ≤ b)))
    (λ n ds le solid. All-append (λ b. 33 ≤ b) ds ((48 + n % 10) ∷ []) solid
    (All-cons (λ b. 33 ≤ b) (48 + n % 10) [] (omega arith) (All-nil (λ b. 33 ≤ b)))) n small

decimal_word : (n : ℕ) → n < 2 ^ 64 → IsWord (decimal n)
decimal_word n small = record { solid = decimal_solid n small; filled = decimal_nonempty n small; ascii = IsAscii-decimal n small }

signed_word : (v : ℕ) → v < 2 ^ 64 → IsWord (signed_text v)
signed_word v small =
    cond_both (nat_lt v (2 ^ 63)) (decimal v) (45 ∷ decimal (2 ^ 64 - v)) IsWord
    (λ low. decimal_word v small)
    (λ high. let le = ltb-false v (2 ^ 63) high in word_behind 45 (decimal (2 ^ 64 - v)) (omega arith) (omega arith) (decimal_word (2 ^ 64 - v) (omega arith)))

flag_word : (v : ℕ) → IsWord (flag_text v)
flag_word v = cond_both (v == 0) (codes "false") (codes "true") IsWord
    (λ none. word_by_tests (codes "false") refl refl (omega arith))
    (λ some. word_by_tests (codes "true") refl refl (omega arith))

int32_small : (v : ℕ) → (v < 2 ^ 31) ⊎ ((2 ^ 64 ≤ v + 2 ^ 31) × (v < 2 ^ 64)) → v < 2 ^ 64
int32_small v (inl low) = omega arith
int32_small v (inr high) = high.1

uint32_small : (v : ℕ) → v % 2 ^ 32 ≡ v → v < 2 ^ 64
uint32_small v is = omega arith

number_word : (kind : FieldKind) (v : ℕ) → IsNumberOf kind v → IsWord (number_text kind v)
number_word Int64 v is = signed_word v (int64_small v is)
number_word Int32 v is = signed_word v (int32_small v (int32_range v is))
number_word Uint32 v is = signed_word v (uint32_small v is)
number_word Enum v is = signed_word v (int32_small v (int32_range v is))
number_word Flag v is = flag_word v
number_word String v is = absurd is
number_word Bytes v is = absurd is
number_word (Message m) v is = absurd is

-- the text of a number has no control character, and no blank at either end
pub number_solid : (kind : FieldKind) (v : ℕ) → IsNumberOf kind v → IsSolid (number_text kind v)
number_solid kind v is = word_solid (number_text kind v) (number_word kind v is)

-- the text of a label has no control character, and no blank at either end
pub label_solid : (k : ℕ) → k < 2 ^ 64 → IsSolid (label_text k)
label_solid k small = word_solid (label_text k) (word_behind 37 (decimal k) (omega arith) (omega arith) (decimal_word k small))

-- ---- hexadecimal digits

abbrev digit : ℕ → ℕ
digit k = get_or lower_digits k 0

abbrev is_solid_ascii : ℕ → Bool
is_solid_ascii b = nat_le 33 b && nat_lt b 128

digit_tests : (k : ℕ) → k < 16 → is_solid_ascii (digit k) ≡ true
digit_tests k lt = agree_below_at (λ k. is_solid_ascii (digit k)) (λ _. true) 16 k refl lt

digit_solid : (k : ℕ) → k < 16 → 33 ≤ digit k
digit_solid k lt = leb-true 33 (digit k) (and_parts (nat_le 33 (digit k)) (nat_lt (digit k) 128) (digit_tests k lt)).0

-- a digit of the table, and 0, which is read past its end
digit_ascii : (k : ℕ) → digit k < 128
digit_ascii k = elim (cases_lt k 16) [
  | inl below ↦ ltb-true (digit k) 128 (and_parts (nat_le 33 (digit k)) (nat_lt (digit k) 128) (digit_tests k below)).1
  | inr past ↦ subst (λ v. v < 128) (sym (get_or_past lower_digits k 0 past)) (omega arith)
]

encode_solid : (content : List ℕ) → AreBytes content → Solid (encode_with lower_digits content)
unfolding encode_with
encode_solid [] bytes = All-nil (λ b. 33 ≤ b)
encode_solid (b ∷ content) bytes =
    let small : b < 256 = bytes.0 in
    All-cons (λ b. 33 ≤ b) (digit (b / 16)) (digit (b % 16) ∷ encode_with lower_digits content) (digit_solid (b / 16) (omega arith))
    (All-cons (λ b. 33 ≤ b) (digit (b % 16)) (encode_with lower_digits content) (digit_solid (b % 16) (omega arith))
    (encode_solid content bytes.1))

bytes_word : (b : List ℕ) → AreBytes b → IsWord (hex_text b)
bytes_word [] bytes = word_by_tests (codes "-") refl refl (omega arith)
bytes_word (b ∷ content) bytes =
    let long = length-encode_with lower_digits (b ∷ content) in
    record {
      solid = encode_solid (b ∷ content) bytes;
      filled = omega (arith, long);
      ascii = IsAscii-encode_with lower_digits (b ∷ content) digit_ascii;
    }

-- hexadecimal digits, or a dash, have no control character and no blank at either end
pub bytes_solid : (b : List ℕ) → AreBytes b → IsSolid (hex_text b)
bytes_solid b bytes = word_solid (hex_text b) (bytes_word b bytes)

-- ---- strings

escaped_plain : (b : ℕ) → Plain (escaped b)
escaped_plain b = escaped_by Plain b
    (λ is. All-cons (λ d. 32 ≤ d) 92 (b ∷ []) (omega arith) (one b (elim is [ inl quote ↦ omega arith | inr slash ↦ omega arith ])))
    (λ is.
    All-cons (λ d. 32 ≤ d) 92 (120 ∷ encode_lower (b ∷ [])) (omega arith)
    (All-cons (λ d. 32 ≤ d) 120 (encode_lower (b ∷ [])) (omega arith)
    (solid_plain (encode_lower (b ∷ [])) (encode_solid (b ∷ []) (elim is [ inl below ↦ omega arith | inr last ↦ omega arith ], tt)))))
    (λ quote slash above. one b above)
  where
    one : (b : ℕ) → 32 ≤ b → Plain (b ∷ [])
    one b above = All-cons (λ d. 32 ≤ d) b [] above (All-nil (λ d. 32 ≤ d))

written_plain : (s : List ℕ) → Plain (flat_map escaped s)
written_plain [] = All-nil (λ b. 32 ≤ b)
written_plain (b ∷ s) = All-append (λ b. 32 ≤ b) (escaped b) (flat_map escaped s) (escaped_plain b) (written_plain s)

escaped_ascii : (b : ℕ) → b < 128 → IsAscii (escaped b)
escaped_ascii b lt = escaped_by IsAscii b
    (λ is. IsAscii-cons 92 (b ∷ []) (omega arith) (IsAscii-cons b [] lt IsAscii-nil))
    (λ is.
    IsAscii-cons 92 (120 ∷ encode_lower (b ∷ [])) (omega arith)
    (IsAscii-cons 120 (encode_lower (b ∷ [])) (omega arith) (IsAscii-encode_with lower_digits (b ∷ []) digit_ascii)))
    (λ quote slash above. IsAscii-cons b [] lt IsAscii-nil)

-- bytes of characters that are not ASCII stay as they are
escaped_high : (b : ℕ) → 128 ≤ b → escaped b ≡ b ∷ []
escaped_high b le = escaped_by (λ t. t ≡ b ∷ []) b
    (λ is. absurd (elim is [ inl quote ↦ omega arith | inr slash ↦ omega arith ]))
    (λ is. absurd (elim is [ inl below ↦ omega arith | inr last ↦ omega arith ]))
    (λ quote slash above. refl)

same_high : (t : List ℕ) → All (λ b. 128 ≤ b) t → flat_map escaped t ≡ t
same_high [] high = refl
same_high (b ∷ t) high = λ i. escaped_high b (All-head (λ b. 128 ≤ b) b t high) i ++ same_high t (All-tail (λ b. 128 ≤ b) b t high) i

bytes_high : (c : ℕ) → 128 ≤ c → All (λ b. 128 ≤ b) (encode c)
bytes_high c le = All-from_get_or (λ b. 128 ≤ b) (encode c) 0 (λ k lt. elim (cases_lt (get_or (encode c) k 0) 128) [
  | inl small ↦ let same : c ≡ get_or (encode c) k 0 = inside_one c [] (encode c) k (sym (append-nil (encode c))) lt small in absurd (omega arith)
  | inr large ↦ large
])

character_utf8 : (c : ℕ) → scalar c ≡ true → IsUtf8 (flat_map escaped (encode c))
character_utf8 c is = elim (cases_lt c 128) [
  | inl low ↦
      subst (λ t. IsUtf8 (flat_map escaped t)) (sym (encode_ascii c low))
      (subst IsUtf8 (sym (append-nil (escaped c))) (IsUtf8-from_ascii (escaped c) (escaped_ascii c low)))
  | inr high ↦ subst IsUtf8 (sym (same_high (encode c) (bytes_high c high))) (c ∷ [], (ap (λ t. t && true) is, append-nil (encode c)))
]

characters_utf8 : (cs : List ℕ) → scalars cs ≡ true → IsUtf8 (flat_map escaped (encodes cs))
characters_utf8 [] all = IsUtf8-nil
characters_utf8 (c ∷ cs) all =
    let both = and_parts (scalar c) (scalars cs) all in
    subst IsUtf8 (sym (flat_map-append escaped (encode c) (encodes cs)))
    (IsUtf8-append (flat_map escaped (encode c)) (flat_map escaped (encodes cs)) (character_utf8 c both.0) (characters_utf8 cs both.1))

quote_utf8 : IsUtf8 (34 ∷ [])
quote_utf8 = IsUtf8-from_ascii (34 ∷ []) (IsAscii-cons 34 [] (omega arith) IsAscii-nil)

string_utf8 : (s : List ℕ) → IsUtf8 s → IsUtf8 (34 ∷ (flat_map escaped s ++ 34 ∷ []))
string_utf8 s is =
    IsUtf8-append (34 ∷ []) (flat_map escaped s ++ 34 ∷ []) quote_utf8
    (IsUtf8-append (flat_map escaped s) (34 ∷ []) (subst (λ t. IsUtf8 (flat_map escaped t)) is.1.1 (characters_utf8 is.0 is.1.0)) quote_utf8)

quoted_plain : (t : List ℕ) → Plain t → Plain (34 ∷ (t ++ 34 ∷ []))
quoted_plain t plain =
    All-cons (λ b. 32 ≤ b) 34 (t ++ 34 ∷ []) (omega arith)
    (All-append (λ b. 32 ≤ b) t (34 ∷ []) plain (All-cons (λ b. 32 ≤ b) 34 [] (omega arith) (All-nil (λ b. 32 ≤ b))))

-- the text of a string in UTF-8 has no control character, and a quote at either end
pub string_solid : (s : List ℕ) → is_utf8 s ≡ true → IsSolid (string_text s)
unfolding string_text
string_solid s is = record {
  begins = record { byte = 34; behind = flat_map escaped s ++ 34 ∷ []; is = refl; above = omega arith };
  ends = record { before = 34 ∷ flat_map escaped s; byte = 34; is = refl; above = omega arith };
  plain = plain_passes (34 ∷ (flat_map escaped s ++ 34 ∷ [])) (quoted_plain (flat_map escaped s) (written_plain s));
  utf8 = is_utf8-from_IsUtf8 (34 ∷ (flat_map escaped s ++ 34 ∷ [])) (string_utf8 s (IsUtf8-from_is_utf8 s is));
}

-- each text that is written for a value fits on one line as it is
pub values_are_solid : ValuesAreSolid
values_are_solid = record { number_solid = number_solid; string_solid = string_solid; bytes_solid = bytes_solid; label_solid = label_solid }
