-- Fields without the empty keys and values of entries are fields by the table too, and hold bytes as they do.
use Rattle.std.proofs.Common.{◌≡◌, ℕ, ◌+◌, ◌*◌, ◌<◌, ◌≤◌, ◌⊎◌, inl, inr, Bool, true, false, List, ◌++◌, length, refl, subst, arith}
use Rattle.std.specs.Prelude.{nat_lt, if◌then◌else◌, not, ◌==◌, ◌&&◌, ◌||◌}
use Rattle.std.proofs.lemmas.Bool.{and_parts, and_from, or_left, or_right, lt-ltb, ltb-true, eq-eqb, eqb-true, cases_lt}
use Rattle.llb_wire.specs.Spelling.{AreBytes, varint_text}
use Rattle.llb_wire.proofs.Varints.{are_bytes-front, are_bytes-back}
use Rattle.llb_ops.specs.declared.table.MessageName.{MessageName}
use Rattle.llb_ops.specs.declared.table.NamedField.{NamedField}
use Rattle.llb_ops.specs.Writing.{set_number, set_bytes}
use Rattle.llb_ops.specs.CanonicalFields.{Fields, extra, number, bytes, message, bytes_of, may_follow, AreFields, without_empty}
use Rattle.llb_asm.proofs.WireRecords.{bytes_spelled}

-- ---- what may follow a later field may follow an earlier one

-- a later field is reached
reached : (last n : ℕ) (repeated : Bool) → (nat_lt last n || (repeated && (last == n))) ≡ true → (last < n) ⊎ ((last ≡ n) × (repeated ≡ true))
reached last n repeated e = go (nat_lt last n) refl repeated e
  where
    go : (b : Bool) → nat_lt last n ≡ b → (r : Bool) → (b || (r && (last == n))) ≡ true → (last < n) ⊎ ((last ≡ n) × (r ≡ true))
    go true lt r e = inl (ltb-true last n lt)
    go false lt r e = let both = and_parts r (last == n) e in inr (eqb-true last n both.1, both.0)

earlier_reaches : (last later n : ℕ) (repeated : Bool) → last ≤ later → (later < n) ⊎ ((later ≡ n) × (repeated ≡ true))
    → (nat_lt last n || (repeated && (last == n))) ≡ true
earlier_reaches last later n repeated le (inl lt) = or_left (nat_lt last n) (repeated && (last == n)) (lt-ltb last n (omega arith))
earlier_reaches last later n repeated le (inr (same, is)) = elim (cases_lt last n) [
  | inl lt ↦ or_left (nat_lt last n) (repeated && (last == n)) (lt-ltb last n lt)
  | inr ge ↦ or_right (nat_lt last n) (repeated && (last == n)) (and_from repeated (last == n) is (eq-eqb last n (omega arith)))
]

-- fewer members are set earlier
fewer : (member set more : Bool) → not (member && (set || more)) ≡ true → not (member && set) ≡ true
fewer false set more e = refl
fewer true true more e = e
fewer true false more e = refl

or_swapped : (set more own : Bool) → ((set || more) || own) ≡ ((set || own) || more)
or_swapped true more own = refl
or_swapped false true true = refl
or_swapped false true false = refl
or_swapped false false true = refl
or_swapped false false false = refl

earlier_follows : (last later : ℕ) (set more : Bool) (f : NamedField) → last ≤ later → may_follow later (set || more) f ≡ true → may_follow last set f ≡ true
earlier_follows last later set more f le e =
    let both = and_parts (nat_lt later f.number || (f.repeated && (later == f.number))) (not (f.member && (set || more))) e in
    and_from (nat_lt last f.number || (f.repeated && (last == f.number))) (not (f.member && set))
    (earlier_reaches last later f.number f.repeated le (reached later f.number f.repeated both.0))
    (fewer f.member set more both.1)

follows_up : (last : ℕ) (set : Bool) (f : NamedField) → may_follow last set f ≡ true → last ≤ f.number
follows_up last set f e =
    let both = and_parts (nat_lt last f.number || (f.repeated && (last == f.number))) (not (f.member && set)) e in
    elim (reached last f.number f.repeated both.0) [ inl lt ↦ omega arith | inr same ↦ let is = same.0 in omega arith ]

earlier_fields : (m : MessageName) (last later : ℕ) (set more : Bool) → last ≤ later → (fs : Fields) → AreFields m later (set || more) fs
    → AreFields m last set fs
earlier_fields m last later set more le (extra behind) are = are
earlier_fields m last later set more le (number row v rest) (is, fits, some, are) = (
  record { known = is.known; follows = earlier_follows last later set more row.1 le is.follows },
  fits,
  some,
  earlier_fields m row.1.number row.1.number (set || row.1.member) more (omega arith) rest
      (subst (λ b. AreFields m row.1.number b rest) (or_swapped set more row.1.member) are),
)
earlier_fields m last later set more le (bytes row held rest) (is, fits, some, are) = (
  record { known = is.known; follows = earlier_follows last later set more row.1 le is.follows },
  fits,
  some,
  earlier_fields m row.1.number row.1.number (set || row.1.member) more (omega arith) rest
      (subst (λ b. AreFields m row.1.number b rest) (or_swapped set more row.1.member) are),
)
earlier_fields m last later set more le (message row inner rest) (is, within_it, are) = (
  record { known = is.known; follows = earlier_follows last later set more row.1 le is.follows },
  within_it,
  earlier_fields m row.1.number row.1.number (set || row.1.member) more (omega arith) rest
      (subst (λ b. AreFields m row.1.number b rest) (or_swapped set more row.1.member) are),
)

-- ---- without some fields they are fields

-- fields by the table are such without the empty keys and values of entries too
pub lean_fields : (m : MessageName) (last : ℕ) (set : Bool) (fs : Fields) → AreFields m last set fs → AreFields m last set (without_empty fs)
lean_fields m last set (extra more) are = are
lean_fields m last set (number row v rest) (is, fits, some, are) = (is, fits, some, lean_fields m row.1.number (set || row.1.member) rest are)
lean_fields m last set (bytes row held rest) (is, fits, some, are) =
    go (row.1.of_entry && (length held == 0)) (lean_fields m row.1.number (set || row.1.member) rest are)
  where
    go : (b : Bool) → AreFields m row.1.number (set || row.1.member) (without_empty rest)
        → AreFields m last set (if b then without_empty rest else bytes row held (without_empty rest))
    go true lean = earlier_fields m last row.1.number set row.1.member (follows_up last set row.1 is.follows) (without_empty rest) lean
    go false lean = (is, fits, some, lean)
lean_fields m last set (message row inner rest) (is, (sub, kind, within_it), are) = (
  is,
  (sub, kind, lean_fields sub 0 false inner within_it),
  lean_fields m row.1.number (set || row.1.member) rest are,
)

-- ---- what fields hold is bytes

abbrev pub HoldBytes : Fields → Type 0
HoldBytes (extra more) = AreBytes more
HoldBytes (number row v rest) = HoldBytes rest
HoldBytes (bytes row held rest) = AreBytes held × HoldBytes rest
HoldBytes (message row inner rest) = HoldBytes inner × HoldBytes rest

payload_bytes : (n : ℕ) (held : List ℕ) → AreBytes (set_bytes n held) → AreBytes held
payload_bytes n held are =
    let all : AreBytes (varint_text (8 * n + 2) ++ (varint_text (length held) ++ held)) = subst AreBytes (bytes_spelled n held) are in
    are_bytes-back (varint_text (length held)) held (are_bytes-back (varint_text (8 * n + 2)) (varint_text (length held) ++ held) all)

-- where all that fields are written as is below 256, so is all that each of them holds
pub hold_bytes : (fs : Fields) → AreBytes (bytes_of fs) → HoldBytes fs
hold_bytes (extra more) all = all
hold_bytes (number row v rest) all = hold_bytes rest (are_bytes-back (set_number row.1.number v) (bytes_of rest) all)
hold_bytes (bytes row held rest) all =
    let b = set_bytes row.1.number held in (
      payload_bytes row.1.number held (are_bytes-front b (bytes_of rest) all),
      hold_bytes rest (are_bytes-back b (bytes_of rest) all),
    )
hold_bytes (message row inner rest) all =
    let b = set_bytes row.1.number (bytes_of inner) in (
      hold_bytes inner (payload_bytes row.1.number (bytes_of inner) (are_bytes-front b (bytes_of rest) all)),
      hold_bytes rest (are_bytes-back b (bytes_of rest) all),
    )

-- what fields hold is bytes without the empty keys and values of entries too
pub lean_bytes : (fs : Fields) → HoldBytes fs → HoldBytes (without_empty fs)
lean_bytes (extra more) all = all
lean_bytes (number row v rest) all = lean_bytes rest all
lean_bytes (bytes row held rest) (here, all) = go (row.1.of_entry && (length held == 0)) (lean_bytes rest all)
  where
    go : (b : Bool) → HoldBytes (without_empty rest) → HoldBytes (if b then without_empty rest else bytes row held (without_empty rest))
    go true lean = lean
    go false lean = (here, lean)
lean_bytes (message row inner rest) (within_it, all) = (lean_bytes inner within_it, lean_bytes rest all)
