-- What is longer takes more room.
use Rattle.std.proofs.Common.{◌≡◌, ℕ, zero, suc, ◌+◌, ◌/◌, ◌≤◌, Bool, true, false, ltb, List, length, refl, arith, length-append}
use Rattle.std.specs.Prelude.{nat_le}
use Rattle.std.proofs.lemmas.Bool.{ltb-true, ltb-false, leb-true, le-leb, and_parts, and_from}
use Rattle.llb_wire.specs.Spelling.{shortest}
use Rattle.llb_ops.specs.Definition.{definition_bytes}
use Rattle.llb_ops.specs.Limits.{definition_limit, entry_limit}
use Rattle.llb_asm.specs.declared.line.Here.{Here}
use Rattle.llb_asm.specs.TextGrammar.{Hand, record_length, is_within, beyond}

-- a smaller number has no longer spelling
smaller : (more j k : ℕ) → j ≤ k → length (shortest more j) ≤ length (shortest more k)
unfolding shortest
smaller zero j k le = omega arith
smaller (suc more) j k le = go (ltb j 128) (ltb k 128) refl refl (smaller more (j / 128) (k / 128) (omega (arith, le))) where
  go : (a b : Bool) → ltb j 128 ≡ a → ltb k 128 ≡ b → length (shortest more (j / 128)) ≤ length (shortest more (k / 128))
      → length (shortest (suc more) j) ≤ length (shortest (suc more) k)
  go true true e f rest = rw (e, f) (omega arith)
  go true false e f rest = rw (e, f) (omega arith)
  go false true e f rest = absurd (omega (arith, le, ltb-false j 128 e, ltb-true k 128 f))
  go false false e f rest = rw (e, f) (omega (arith, rest))

-- a record with a longer payload is no shorter
pub record_grows : (number j k : ℕ) → j ≤ k → record_length number j ≤ record_length number k
record_grows number j k le = omega (arith, smaller 9 j k le)

-- a shorter entry is within the limits too
pub within_below : (earlier : List (List ℕ)) (j k : ℕ) → j ≤ k → is_within earlier k ≡ true → is_within earlier j ≡ true
within_below earlier j k le is =
    let both = and_parts (nat_le k entry_limit) (nat_le (length (definition_bytes earlier) + record_length 1 k) definition_limit) is in
    let short = leb-true k entry_limit both.0 in
    let small = leb-true (length (definition_bytes earlier) + record_length 1 k) definition_limit both.1 in
    and_from (nat_le j entry_limit) (nat_le (length (definition_bytes earlier) + record_length 1 j) definition_limit)
    (le-leb j entry_limit (omega arith))
    (le-leb (length (definition_bytes earlier) + record_length 1 j) definition_limit (omega (arith, small, record_grows 1 j k le)))

-- ---- room for more bytes

abbrev pub HasRoom : Hand → ℕ → Type 0
HasRoom hand size = (k : ℕ) → k ≤ length hand.bytes + size → hand.room k ≡ true

-- where there is room for a total, there is room after some bytes for what these leave of it
pub room_behind : (hand : Hand) (next : Here) (b : List ℕ) (size total : ℕ) → length b + size ≤ total → HasRoom hand total → HasRoom (beyond hand next b) size
room_behind hand next b size total le has k below = has k (omega (arith, le, below, length-append hand.bytes b))

-- where there is room for a total, a smaller size passes the test
pub room_for : (hand : Hand) (size total : ℕ) → size ≤ total → HasRoom hand total → hand.room (length hand.bytes + size) ≡ true
room_for hand size total le has = has (length hand.bytes + size) (omega (arith, le))
