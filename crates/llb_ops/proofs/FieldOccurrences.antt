-- How often a number occurs in a list. If no field number occurs too often among all fields, none does as `AreFew` counts them in order.
use Rattle.std.proofs.Common.{◌≡◌, ℕ, ◌+◌, ◌≤◌, Bool, true, false, eqb, List, [], ◌∷◌, ◌++◌, length, map, refl, sym, ap, subst, ◌∙◌, eq-eqb, arith}
use Rattle.std.specs.Prelude.{nat_le, ◌&&◌, ◌==◌, if◌then◌else◌}
use Rattle.std.specs.List.{AllByRecursion}
use Rattle.std.proofs.lemmas.Bool.{eqb-true, leb-true}
use Rattle.std.proofs.lemmas.List.{length-map, map-append}
use Rattle.llb_wire.specs.Records.{Record}
use Rattle.llb_ops.specs.Limits.{field_limit}
use Rattle.llb_ops.specs.Records.{all, is_member}
use Rattle.llb_ops.specs.CanonicalFields.{Fields, extra, number, bytes, message, without_empty, one_more_of, AreFew}
use Rattle.llb_ops.proofs.RecordsByFieldNumber.{has, apart, apart_left}
use Rattle.llb_ops.proofs.FieldKindRoundTrips.{same_number}

-- how often the number occurs among these
abbrev pub stands : ℕ → List ℕ → ℕ
stands n [] = 0
stands n (k ∷ ks) = if k == n then stands n ks + 1 else stands n ks

-- no number occurs too often
abbrev pub NoneOften : List ℕ → Type 0
NoneOften ks = (n : ℕ) → stands n ks ≤ field_limit

-- the numbers of fields, without those in the messages among them
abbrev pub numbers_of : Fields → List ℕ
numbers_of (extra more) = []
numbers_of (number row v rest) = row.1.number ∷ numbers_of rest
numbers_of (bytes row held rest) = row.1.number ∷ numbers_of rest
numbers_of (message row inner rest) = row.1.number ∷ numbers_of rest

-- no number occurs too often in a message among the fields
abbrev pub AreInnerFew : Fields → Type 0
AreInnerFew (extra more) = Unit {0}
AreInnerFew (number row v rest) = AreInnerFew rest
AreInnerFew (bytes row held rest) = AreInnerFew rest
AreInnerFew (message row inner rest) = NoneOften (numbers_of inner) × AreInnerFew inner × AreInnerFew rest

-- ---- if no number occurs too often in a list, none does as the list is counted in order

-- no number occurs too often in this list, if the number `last` has already occurred `count` times right before the list
abbrev HasRoom : ℕ → ℕ → List ℕ → Type 0
HasRoom last count ks = (n : ℕ) → (if last == n then count else 0) + stands n ks ≤ field_limit

room_for : (last count k : ℕ) (ks : List ℕ) → HasRoom last count (k ∷ ks) → one_more_of last count k ≤ field_limit
room_for last count k ks h = go (eqb last k) refl (h k) where
  go : (b : Bool) → eqb last k ≡ b → (if last == k then count else 0) + stands k (k ∷ ks) ≤ field_limit → one_more_of last count k ≤ field_limit
  go true e f = let same : eqb k k ≡ true = eq-eqb k k refl in let g = rw (e, same) at f in rw e (omega (arith, g))
  go false e f = rw e (omega arith)

room_behind : (last count k : ℕ) (ks : List ℕ) → HasRoom last count (k ∷ ks) → HasRoom k (one_more_of last count k) ks
room_behind last count k ks h n = go (eqb k n) refl (h n) where
  again : (b : Bool) → eqb last k ≡ b → (if last == k then count else 0) + (stands k ks + 1) ≤ field_limit
      → one_more_of last count k + stands k ks ≤ field_limit
  again true e f = let g = rw e at f in rw e (omega (arith, g))
  again false e f = let g = rw e at f in rw e (omega (arith, g))

  go : (b : Bool) → eqb k n ≡ b → (if last == n then count else 0) + stands n (k ∷ ks) ≤ field_limit
      → (if k == n then one_more_of last count k else 0) + stands n ks ≤ field_limit
  go true e f =
      let g = rw e at f in
      rw e (subst (λ (m : ℕ). one_more_of last count k + stands m ks ≤ field_limit) (eqb-true k n e)
      (again (eqb last k) refl (subst (λ (m : ℕ). (if last == m then count else 0) + (stands m ks + 1) ≤ field_limit) (sym (eqb-true k n e)) g)))
  go false e f = let g = rw e at f in rw e (omega (arith, g))

room_at_first : (ks : List ℕ) → NoneOften ks → HasRoom 0 0 ks
room_at_first ks h n = go (eqb 0 n) (h n) where
  go : (b : Bool) → stands n ks ≤ field_limit → (if b then 0 else 0) + stands n ks ≤ field_limit
  go true f = omega (arith, f)
  go false f = omega (arith, f)

few_behind : (last count : ℕ) (fs : Fields) → HasRoom last count (numbers_of fs) → AreInnerFew fs → AreFew last count fs
few_behind last count (extra more) room inner = tt
few_behind last count (number row v rest) room inner =
    let ks = numbers_of rest in
    let k = row.1.number in
    (room_for last count k ks room, few_behind k (one_more_of last count k) rest (room_behind last count k ks room) inner)
few_behind last count (bytes row held rest) room inner =
    let ks = numbers_of rest in
    let k = row.1.number in
    (room_for last count k ks room, few_behind k (one_more_of last count k) rest (room_behind last count k ks room) inner)
few_behind last count (message row held rest) room (own, deep, inner) =
    let ks = numbers_of rest in
    let k = row.1.number in (
      room_for last count k ks room,
      few_behind 0 0 held (room_at_first (numbers_of held) own) deep,
      few_behind k (one_more_of last count k) rest (room_behind last count k ks room) inner,
    )

-- where no number occurs too often among fields, nor in the messages among them, none does as they are counted in order
pub are_few : (fs : Fields) → NoneOften (numbers_of fs) → AreInnerFew fs → AreFew 0 0 fs
are_few fs own inner = few_behind 0 0 fs (room_at_first (numbers_of fs) own) inner

-- ---- without empty keys and values of entries

stands_fewer : (n k : ℕ) (xs ys : List ℕ) → stands n xs ≤ stands n ys → stands n (k ∷ xs) ≤ stands n (k ∷ ys)
stands_fewer n k xs ys h = go (eqb k n) where
  go : (b : Bool) → (if b then stands n xs + 1 else stands n xs) ≤ (if b then stands n ys + 1 else stands n ys)
  go true = omega (arith, h)
  go false = h

stands_left_out : (n k : ℕ) (xs ys : List ℕ) → stands n xs ≤ stands n ys → stands n xs ≤ stands n (k ∷ ys)
stands_left_out n k xs ys h = go (eqb k n) where
  go : (b : Bool) → stands n xs ≤ (if b then stands n ys + 1 else stands n ys)
  go true = omega (arith, h)
  go false = h

fewer : (n : ℕ) (fs : Fields) → stands n (numbers_of (without_empty fs)) ≤ stands n (numbers_of fs)
fewer n (extra more) = omega arith
fewer n (number row v rest) = stands_fewer n row.1.number (numbers_of (without_empty rest)) (numbers_of rest) (fewer n rest)
fewer n (bytes row held rest) = go (row.1.of_entry && (length held == 0)) refl (fewer n rest) where
  go : (b : Bool) → row.1.of_entry && (length held == 0) ≡ b → stands n (numbers_of (without_empty rest)) ≤ stands n (numbers_of rest)
      → stands n (numbers_of (without_empty (bytes row held rest))) ≤ stands n (numbers_of (bytes row held rest))
  go true e h = rw e (stands_left_out n row.1.number (numbers_of (without_empty rest)) (numbers_of rest) h)
  go false e h = rw e (stands_fewer n row.1.number (numbers_of (without_empty rest)) (numbers_of rest) h)
fewer n (message row inner rest) = stands_fewer n row.1.number (numbers_of (without_empty rest)) (numbers_of rest) (fewer n rest)

none_often_without : (fs : Fields) → NoneOften (numbers_of fs) → NoneOften (numbers_of (without_empty fs))
none_often_without fs h n = omega (arith, h n, fewer n fs)

inner_without : (fs : Fields) → AreInnerFew fs → AreInnerFew (without_empty fs)
inner_without (extra more) h = tt
inner_without (number row v rest) h = inner_without rest h
inner_without (bytes row held rest) h = go (row.1.of_entry && (length held == 0)) refl (inner_without rest h) where
  go : (b : Bool) → row.1.of_entry && (length held == 0) ≡ b → AreInnerFew (without_empty rest) → AreInnerFew (without_empty (bytes row held rest))
  go true e k = rw e k
  go false e k = rw e k
inner_without (message row inner rest) (own, deep, h) = (none_often_without inner own, inner_without inner deep, inner_without rest h)

-- nor does any number occur too often once the empty keys and values of entries are left out
pub are_few_without : (fs : Fields) → NoneOften (numbers_of fs) → AreInnerFew fs → AreFew 0 0 (without_empty fs)
are_few_without fs own inner = are_few (without_empty fs) (none_often_without fs own) (inner_without fs inner)

-- ---- the records of fields

abbrev pub numbered : List Record → List ℕ
numbered rs = map (λ r. r.number) rs

-- a number occurs no more often than there are numbers
stands_at_most : (n : ℕ) (ks : List ℕ) → stands n ks ≤ length ks
stands_at_most n [] = omega arith
stands_at_most n (k ∷ ks) = go (eqb k n) (stands_at_most n ks) where
  go : (b : Bool) → stands n ks ≤ length ks → (if b then stands n ks + 1 else stands n ks) ≤ length (k ∷ ks)
  go true h = omega (arith, h)
  go false h = omega (arith, h)

-- among no more records than a field may have, no number occurs too often
pub none_often : (rs : List Record) → length rs ≤ field_limit → NoneOften (numbered rs)
none_often rs few n = omega (arith, few, stands_at_most n (numbered rs), length-map rs (λ r. r.number))

-- in a field that is repeated within its limit, no number occurs too often
pub none_repeated : (n : ℕ) (rs : List Record) → AllByRecursion (λ r. r.number ≡ n) rs
    → nat_le (length (all n rs)) field_limit ≡ true → NoneOften (numbered rs)
none_repeated n rs own within =
    let few : nat_le (length rs) field_limit ≡ true = subst (λ (xs : List Record). nat_le (length xs) field_limit ≡ true) (same_number n rs own) within in
    none_often rs (leb-true (length rs) field_limit few)

-- ---- two fields, or several

stands_append : (n : ℕ) (xs ys : List ℕ) → stands n (xs ++ ys) ≡ stands n xs + stands n ys
stands_append n [] ys = omega arith
stands_append n (x ∷ xs) ys = go (eqb x n) (stands_append n xs ys) where
  go : (b : Bool) → stands n (xs ++ ys) ≡ stands n xs + stands n ys
      → (if b then stands n (xs ++ ys) + 1 else stands n (xs ++ ys)) ≡ (if b then stands n xs + 1 else stands n xs) + stands n ys
  go true h = omega (arith, h)
  go false h = h

-- a number that is in a list is not equal to one that is not
is_other : (ns : List ℕ) (j n : ℕ) → has ns j ≡ true → has ns n ≡ false → eqb j n ≡ false
is_other ns j n e f = go (eqb j n) refl where
  go : (b : Bool) → eqb j n ≡ b → eqb j n ≡ false
  go true g = let same : has ns j ≡ false = subst (λ (k : ℕ). has ns k ≡ false) (sym (eqb-true j n g)) f in absurd cc
  go false g = g

stands_nowhere : (ns : List ℕ) (n : ℕ) (rs : List Record) → AllByRecursion (λ r. is_member ns r ≡ true) rs → has ns n ≡ false → stands n (numbered rs) ≡ 0
stands_nowhere ns n [] h f = refl
stands_nowhere ns n (r ∷ rs) h f = let e = is_other ns r.number n h.0 f in rw e (stands_nowhere ns n rs h.1 f)

-- where two fields share no number, and none occurs too often in either's records, none does in both together
pub none_of_both : (ns ms : List ℕ) (xs ys : List Record) → apart ns ms ≡ true → AllByRecursion (λ r. is_member ns r ≡ true) xs
    → AllByRecursion (λ r. is_member ms r ≡ true) ys
    → NoneOften (numbered xs) → NoneOften (numbered ys) → NoneOften (numbered (xs ++ ys))
none_of_both ns ms xs ys e own_xs own_ys few_xs few_ys n =
    subst (λ (k : ℕ). k ≤ field_limit) (sym (ap (stands n) (map-append (λ r. r.number) xs ys) ∙ stands_append n (numbered xs) (numbered ys)))
    (go (has ms n) refl) where
      go : (b : Bool) → has ms n ≡ b → stands n (numbered xs) + stands n (numbered ys) ≤ field_limit
      go true f = omega (arith, few_ys n, stands_nowhere ns n xs own_xs (apart_left ns ms n e f))
      go false f = omega (arith, few_xs n, stands_nowhere ms n ys own_ys f)
