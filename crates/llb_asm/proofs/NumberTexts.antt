-- The text of a number is read as the number.
use Rattle.std.proofs.Common.{◌≡◌, ℕ, ◌+◌, ◌-◌, ◌%◌, ◌^◌, ◌<◌, ◌≤◌, ◌⊎◌, nat_le, ◌&&◌, not, true, cond, inl, inr, List, [], ◌∷◌, length, Some, refl}
use Rattle.std.proofs.Common.{sym, ap, ◌∙◌, arith, rules}
use Rattle.std.specs.List.{list_all}
use Rattle.std.specs.Fmt.{decimal}
use Rattle.std.specs.Int.{w32, w64, cast_signed, cast_unsigned}
use Rattle.std.specs.Str.Parse.{digits_value}
use Rattle.std.proofs.lemmas.Bool.{cases_lt, cases_eq, and_parts, lt-ltb, le-ltb, le-leb, leb-true, ne_eqb}
use Rattle.std.proofs.lemmas.Int.{ints, of_z-to_z}
use Rattle.std.proofs.lemmas.Fmt.{digits_decimal, digits_value-decimal, decimal_nonempty}
use Rattle.std.proofs.lemmas.Str.Parse.{IsNumeralModel, numerals_by_value}
use Rattle.llb_ops.specs.declared.table.FieldKind.{FieldKind}
use Rattle.llb_ops.specs.declared.table.FieldKind.TheVariants.{Int64, Int32, Uint32, Enum, Bool as Flag, String, Bytes, Message}
use Rattle.llb_ops.specs.CanonicalFields.{IsNumberOf}
use Rattle.llb_ops.specs.Records.{int32, int64, flag}
use Rattle.llb_ops.specs.Writing.{bit}
use Rattle.llb_asm.specs.FieldValueTexts.{signed_in, signed_text, negated, flag_in, flag_text, number_in}
use Rattle.llb_wire.specs.Decimal.{is_digit, magnitude, below}
use Rattle.llb_wire.specs.TextComparison.{then_in, where_so}
use Rattle.llb_asm.specs.FieldValueTexts.{number_text, label_in, label_text}

-- ---- digits

pub own : IsNumeralModel (λ ds. list_all is_digit ds ≡ true) (digits_value 10)
own = numerals_by_value _ (search rules)

pub magnitude_decimal : (n : ℕ) → n < 2 ^ 64 → magnitude (decimal n) ≡ Some n
unfolding magnitude
magnitude_decimal n small =
    let filled = decimal_nonempty n small in
    let none : length (decimal n) ≡ 0 → ⊥ = λ e. omega arith in
    λ i. where_so (not (ne_eqb (length (decimal n)) 0 none i) && digits_decimal own n small i) (digits_value-decimal own n small i)

-- ---- numbers with a sign

plain_in : (limit v : ℕ) (text : List ℕ) → list_all is_digit text ≡ true → magnitude text ≡ Some v → v < limit → signed_in limit text ≡ Some v
unfolding magnitude signed_in
plain_in limit v [] all is lt = absurd cc
plain_in limit v (b ∷ text) all is lt =
    let digit = (and_parts (is_digit b) (list_all is_digit text) all).0 in
    let above = leb-true 48 b (and_parts (nat_le 48 b) (nat_le b 57) digit).0 in
    let other : b ≡ 45 → ⊥ = λ e. omega arith in
    ap (λ t. cond t (then_in (magnitude text) (negated limit)) (then_in (magnitude (b ∷ text)) (below limit))) (ne_eqb b 45 other)
    ∙ ap (λ o. then_in o (below limit)) is
    ∙ ap (λ t. where_so t v) (lt-ltb v limit lt)

pub signed_plain_back : (limit v : ℕ) → limit ≤ 2 ^ 63 → v < limit → signed_in limit (signed_text v) ≡ Some v
signed_plain_back limit v most lt =
    let low : v < 2 ^ 63 = omega arith in
    let small : v < 2 ^ 64 = omega arith in
    ap (λ t. signed_in limit (cond t (decimal v) (45 ∷ decimal (2 ^ 64 - v)))) (lt-ltb v (2 ^ 63) low)
    ∙ plain_in limit v (decimal v) (digits_decimal own v small) (magnitude_decimal v small) lt

pub signed_minus_back : (limit v : ℕ) → limit ≤ 2 ^ 63 → 2 ^ 64 ≤ v + limit → v < 2 ^ 64 → signed_in limit (signed_text v) ≡ Some v
unfolding signed_in
signed_minus_back limit v most le small =
    let high : 2 ^ 63 ≤ v = omega arith in
    let less : 2 ^ 64 - v < 2 ^ 64 = omega arith in
    let some : 0 < 2 ^ 64 - v = omega arith in
    let within : 2 ^ 64 - v ≤ limit = omega arith in
    let back : 2 ^ 64 - (2 ^ 64 - v) ≡ v = omega arith in
    ap (λ t. signed_in limit (cond t (decimal v) (45 ∷ decimal (2 ^ 64 - v)))) (le-ltb v (2 ^ 63) high)
    ∙ ap (λ o. then_in o (negated limit)) (magnitude_decimal (2 ^ 64 - v) less)
    ∙ (λ i. where_so (lt-ltb 0 (2 ^ 64 - v) some i && le-leb (2 ^ 64 - v) limit within i) (back i))

signed_back : (limit v : ℕ) → limit ≤ 2 ^ 63 → (v < limit) ⊎ ((2 ^ 64 ≤ v + limit) × (v < 2 ^ 64)) → signed_in limit (signed_text v) ≡ Some v
signed_back limit v most (inl low) = signed_plain_back limit v most low
signed_back limit v most (inr high) = signed_minus_back limit v most high.0 high.1

-- a number that an int64 spells has 64 bits
pub int64_small : (v : ℕ) → cast_unsigned w64 (int64 v) ≡ v → v < 2 ^ 64
int64_small v is = let same : v % 2 ^ 64 ≡ v = sym (of_z-to_z w64 (v % 2 ^ 64) (omega arith)) ∙ is in omega arith

int64_range : (v : ℕ) → v < 2 ^ 64 → (v < 2 ^ 63) ⊎ ((2 ^ 64 ≤ v + 2 ^ 63) × (v < 2 ^ 64))
int64_range v small = elim (cases_lt v (2 ^ 63)) [ inl low ↦ inl low | inr high ↦ inr (omega arith, small) ]

-- a number that an int32 spells is below 2 ^ 31, or among the last 2 ^ 31 numbers of 64 bits
pub int32_range : (v : ℕ) → cast_unsigned w64 (int32 v) ≡ v → (v < 2 ^ 31) ⊎ ((2 ^ 64 ≤ v + 2 ^ 31) × (v < 2 ^ 64))
int32_range v is = elim (cases_lt v (2 ^ 31)) [
  | inl low ↦ inl low
  | inr high ↦ inr (of_low (v % 2 ^ 32) v (omega arith) is high)
]
  where
    of_low : (u v : ℕ) → u < 2 ^ 32 → cast_unsigned w64 (cast_signed w32 u) ≡ v → 2 ^ 31 ≤ v → (2 ^ 64 ≤ v + 2 ^ 31) × (v < 2 ^ 64)
    of_low u v small is high = (omega (arith, ints), omega (arith, ints))

-- ---- each kind

uint32_back : (v : ℕ) → v % 2 ^ 32 ≡ v → then_in (magnitude (signed_text v)) (below (2 ^ 32)) ≡ Some v
uint32_back v is =
    let lt : v < 2 ^ 32 = omega arith in
    let low : v < 2 ^ 63 = omega arith in
    ap (λ t. then_in (magnitude (cond t (decimal v) (45 ∷ decimal (2 ^ 64 - v)))) (below (2 ^ 32))) (lt-ltb v (2 ^ 63) low)
    ∙ ap (λ o. then_in o (below (2 ^ 32))) (magnitude_decimal v (omega arith))
    ∙ ap (λ t. where_so t v) (lt-ltb v (2 ^ 32) lt)

-- a number that a flag spells is 0 or 1
pub flag_values : (v : ℕ) → bit (flag v) ≡ v → (v ≡ 0) ⊎ (v ≡ 1)
flag_values v is = elim (cases_eq v 0) [
  | inl none ↦ inl none
  | inr some ↦ inr (sym is ∙ ap (λ t. bit (not t)) (ne_eqb v 0 some))
]

flag_back : (v : ℕ) → (v ≡ 0) ⊎ (v ≡ 1) → flag_in (flag_text v) ≡ Some v
flag_back v (inl is) = let at : flag_in (flag_text 0) ≡ Some 0 = refl in ap (λ k. flag_in (flag_text k)) is ∙ at ∙ ap (λ k. Some k) (sym is)
flag_back v (inr is) = let at : flag_in (flag_text 1) ≡ Some 1 = refl in ap (λ k. flag_in (flag_text k)) is ∙ at ∙ ap (λ k. Some k) (sym is)

pub number_back : (kind : FieldKind) (v : ℕ) → IsNumberOf kind v → number_in kind (number_text kind v) ≡ Some v
number_back Int64 v is = signed_back (2 ^ 63) v (omega arith) (int64_range v (int64_small v is))
number_back Int32 v is = signed_back (2 ^ 31) v (omega arith) (int32_range v is)
number_back Uint32 v is = uint32_back v is
number_back Enum v is = signed_back (2 ^ 31) v (omega arith) (int32_range v is)
number_back Flag v is = flag_back v (flag_values v is)
number_back String v is = absurd is
number_back Bytes v is = absurd is
number_back (Message m) v is = absurd is

-- ---- labels

pub label_back : (k : ℕ) → k < 2 ^ 64 → label_in (label_text k) ≡ Some k
unfolding label_in
label_back k small = magnitude_decimal k small
