-- A number is read exactly if the bytes spell one; the shortest spelling of a number is read as that number, whatever follows, and no
-- spelling of the number is shorter.
use Rattle.std.proofs.Common.{zero-add, ◌≡◌, ℕ, zero, suc, ◌+◌, ◌-◌, ◌*◌, ◌/◌, ◌%◌, ◌^◌, ◌<◌, ◌≤◌, Bool, true, false, cond, ltb, List, []}
use Rattle.std.proofs.Common.{◌∷◌, ◌++◌, length, get_or, take, drop, Result, Ok, Err, ◌⊎◌, inl, inr, refl, sym, ap, subst, ◌∙◌, arith}
use Rattle.std.proofs.lemmas.Bool.{ltb-false, le-ltb, ltb-true, lt-ltb, cases_lt}
use Rattle.std.proofs.lemmas.List.{length-take, length-drop, take-append-drop, drop_at, take_at}
use Rattle.llb_wire.specs.declared.fault.WireFault.{WireFault}
use Rattle.llb_wire.specs.declared.fault.WireFault.TheVariants.{LongVarint}
use Rattle.llb_wire.specs.CallResults.{◌>>=◌}
use Rattle.llb_wire.proofs.RuleComposition.{bind_ok}
use Rattle.llb_wire.specs.Reading.{varint_from, varint_at, varint_limit}
use Rattle.llb_wire.specs.Spelling.{shortest, varint_text, Spells, IsVarint, VarintAt, AreBytes, IsShortest}

-- the pair of two numbers, under a name that proofs can use
abbrev pair : ℕ → ℕ → ℕ × ℕ
pair a b = (a, b)

-- the result `Ok x` for a pair of numbers, under a name that proofs can use
abbrev ok_of : ℕ × ℕ → Result (ℕ × ℕ) WireFault
ok_of x = Ok x

ok_pair : {x y : ℕ × ℕ} → ok_of x ≡ ok_of y → x ≡ y
ok_pair e = cc

-- ---- the bytes that are read for a number spell it

-- if a number that begins with the byte `b` is read, then either `b` is its last byte (`test` is true), or the rest of the number is read after `b`
pub short_or : (b v n : ℕ) (more : Result (ℕ × ℕ) WireFault) (test : Bool)
    → cond {A = Result (ℕ × ℕ) WireFault} test (Ok (b, 1)) (more >>= λ m. Ok (b - 128 + 128 * m.0, suc m.1)) ≡ Ok (v, n)
    → ((test ≡ true) × (n ≡ 1)) ⊎ ((test ≡ false) × ((m : ℕ × ℕ) × (more ≡ Ok m) × (b - 128 + 128 * m.0 ≡ v) × (suc m.1 ≡ n)))
short_or b v n more true e = let h : pair b 1 ≡ pair v n = cc in inl (refl, sym (ap (λ (x : ℕ × ℕ). x.1) h))
short_or b v n (Ok m) false e = let h : pair (b - 128 + 128 * m.0) (suc m.1) ≡ pair v n =
    cc in inr (refl, (m, refl, ap (λ (x : ℕ × ℕ). x.0) h, ap (λ (x : ℕ × ℕ). x.1) h))
short_or b v n (Err d) false e = absurd cc

long_is : (b v n : ℕ) (test : Bool) → cond {A = Result (ℕ × ℕ) WireFault} test (Err LongVarint) (Ok (b, 1)) ≡ Ok (v, n) → n ≡ 1
long_is b v n true e = absurd cc
long_is b v n false e = let h : pair b 1 ≡ pair v n = cc in sym (ap (λ (x : ℕ × ℕ). x.1) h)

-- the spelling of a number that is read has at least one byte, and is within the bytes
pub varint_len : (more : ℕ) (bytes : List ℕ) (v n : ℕ) → varint_from more bytes ≡ Ok (v, n) → (0 < n) × (n ≤ length bytes)
unfolding varint_from
varint_len more [] v n e = absurd cc
varint_len zero (b ∷ bytes) v n e = let one = long_is b v n (ltb 1 b) e in (omega (arith, one), omega (arith, one))
varint_len (suc more) (b ∷ bytes) v n e =
    elim (short_or b v n (varint_from more bytes) (ltb b 128) e) [
      | inl s ↦ (omega (arith, s.1), omega (arith, s.1))
      | inr l ↦ (omega (arith, l.1.3), omega (arith, l.1.3, varint_len more bytes l.1.0.0 l.1.0.1 l.1.1))
    ]

spells_more : (b v m : ℕ) (xs : List ℕ) → 128 ≤ b → v + 128 ≡ b + 128 * m → Spells xs m → Spells (b ∷ xs) v
spells_more b v m [] high sum h = absurd h
spells_more b v m (c ∷ xs) high sum h = (high, m, sum, h)

last_is : (b v n : ℕ) (bytes : List ℕ) (test : Bool) → ltb 1 b ≡ test
    → cond {A = Result (ℕ × ℕ) WireFault} test (Err LongVarint) (Ok (b, 1)) ≡ Ok (v, n) → Spells (take n (b ∷ bytes)) v × (n ≤ 1)
last_is b v n bytes true t e = absurd cc
last_is b v n bytes false t e =
    let h : pair b 1 ≡ pair v n = cc in
    let small = ltb-false 1 b t in
    subst (λ (x : ℕ × ℕ). Spells (take x.1 (b ∷ bytes)) x.0 × (x.1 ≤ 1)) h ((omega (arith, small), refl), omega arith)

-- the bytes that are read for a number spell it
pub spells_found : (more : ℕ) (bytes : List ℕ) (v n : ℕ) → varint_from more bytes ≡ Ok (v, n) → Spells (take n bytes) v × (n ≤ suc more)
unfolding varint_from
spells_found more [] v n e = absurd cc
spells_found zero (b ∷ bytes) v n e = last_is b v n bytes (ltb 1 b) refl e
spells_found (suc more) (b ∷ bytes) v n e =
    elim (short_or b v n (varint_from more bytes) (ltb b 128) e) [
      | inl s ↦
          let h : pair b 1 ≡ pair v n = let f = rw s.0 at e in cc in
          subst (λ (x : ℕ × ℕ). Spells (take x.1 (b ∷ bytes)) x.0 × (x.1 ≤ suc (suc more))) h ((ltb-true b 128 s.0, refl), omega arith)
      | inr l ↦
          let deep = spells_found more bytes l.1.0.0 l.1.0.1 l.1.1 in
          let high = ltb-false b 128 l.0 in
          subst (λ (k : ℕ). Spells (take k (b ∷ bytes)) v × (k ≤ suc (suc more))) l.1.3
          (spells_more b v l.1.0.0 (take l.1.0.1 bytes) high (omega (arith, l.1.2, high)) deep.0, omega (arith, deep.1))
    ]

-- every value of `varint_limit` is at least 2
pub limit_least : (more : ℕ) → 2 ≤ varint_limit more
limit_least zero = omega arith
limit_least (suc more) = omega (arith, limit_least more)

-- a number that `varint_from more` reads from bytes is below `varint_limit more`
small_found : (more : ℕ) (bytes : List ℕ) (v n : ℕ) → AreBytes bytes → varint_from more bytes ≡ Ok (v, n) → v < varint_limit more
unfolding varint_from
small_found more [] v n are e = absurd cc
small_found zero (b ∷ bytes) v n are e = go b v n (ltb 1 b) refl e where
  go : (b v n : ℕ) (test : Bool) → ltb 1 b ≡ test → cond {A = Result (ℕ × ℕ) WireFault} test (Err LongVarint) (Ok (b, 1)) ≡ Ok (v, n) → v < 2
  go b v n true t e = absurd cc
  go b v n false t e =
      let h : pair b 1 ≡ pair v n = cc in
      let value : b ≡ v = ap (λ (x : ℕ × ℕ). x.0) h in
      omega (arith, value, ltb-false 1 b t)
small_found (suc more) (b ∷ bytes) v n are e =
    elim (short_or b v n (varint_from more bytes) (ltb b 128) e) [
      | inl s ↦
          let h : pair b 1 ≡ pair v n = let f = rw s.0 at e in cc in
          let value : b ≡ v = ap (λ (x : ℕ × ℕ). x.0) h in
          omega (arith, value, ltb-true b 128 s.0, limit_least more)
      | inr l ↦ omega (arith, l.1.2, are.0, small_found more bytes l.1.0.0 l.1.0.1 are.1 l.1.1)
    ]

-- ---- a spelled number is read, whatever follows it

pub spells_read : (more : ℕ) (xs rest : List ℕ) (v : ℕ) → Spells xs v → length xs ≤ suc more → v < varint_limit more
    → varint_from more (xs ++ rest) ≡ Ok (v, length xs)
unfolding varint_from
spells_read more [] rest v h short small = absurd h
spells_read zero (b ∷ []) rest v h short small =
    let no : ltb 1 b ≡ false = le-ltb _ _ (omega (arith, h.1, small)) in rw (no, h.1) refl
spells_read (suc more) (b ∷ []) rest v h short small =
    let lt : ltb b 128 ≡ true = lt-ltb _ _ h.0 in rw (lt, h.1) refl
spells_read zero (b ∷ c ∷ xs) rest v h short small = absurd (omega (arith, short))
spells_read (suc more) (b ∷ c ∷ xs) rest v h short small =
    let no : ltb b 128 ≡ false = le-ltb _ _ h.0 in
    let deep = spells_read more (c ∷ xs) rest h.1 h.3 (omega (arith, short)) (omega (arith, h.2, h.0, small)) in
    let value : b - 128 + 128 * h.1 ≡ v = omega (arith, h.2, h.0) in
    rw (no, deep, value) refl

-- if some of the bytes spell a number, this number is read from them, wherever they are
pub varint_read : (before spelling rest : List ℕ) (n at : ℕ) → at ≡ length before → IsVarint spelling n
    → varint_at (before ++ (spelling ++ rest)) at ≡ Ok (n, at + length spelling)
varint_read before spelling rest n at e h =
    rw (drop_at before (spelling ++ rest) at (sym e), spells_read 9 spelling rest n h.spells (omega (arith, h.short)) h.small) refl

-- ---- spellings are bytes

-- a list is a list of bytes if the element at each position is below 256
pub are_bytes : (xs : List ℕ) → ((k : ℕ) → get_or xs k 0 < 256) → AreBytes xs
are_bytes [] h = tt
are_bytes (x ∷ xs) h = (h 0, are_bytes xs (λ k. h (suc k)))

pub are_bytes-drop : (n : ℕ) (xs : List ℕ) → AreBytes xs → AreBytes (drop n xs)
are_bytes-drop zero xs h = h
are_bytes-drop (suc n) [] h = tt
are_bytes-drop (suc n) (x ∷ xs) h = are_bytes-drop n xs h.1

pub are_bytes-append : (xs ys : List ℕ) → AreBytes xs → AreBytes ys → AreBytes (xs ++ ys)
are_bytes-append [] ys a b = b
are_bytes-append (x ∷ xs) ys a b = (a.0, are_bytes-append xs ys a.1 b)

pub are_bytes-front : (xs ys : List ℕ) → AreBytes (xs ++ ys) → AreBytes xs
are_bytes-front [] ys h = tt
are_bytes-front (x ∷ xs) ys h = (h.0, are_bytes-front xs ys h.1)

pub are_bytes-back : (xs ys : List ℕ) → AreBytes (xs ++ ys) → AreBytes ys
are_bytes-back [] ys h = h
are_bytes-back (x ∷ xs) ys h = are_bytes-back xs ys h.1

-- ---- reading and spelling at a position in longer bytes

-- if a number is read at a position of bytes, the bytes there spell the number
pub varint_found : (bytes : List ℕ) (at : ℕ) (x : ℕ × ℕ) → AreBytes bytes → at ≤ length bytes → varint_at bytes at ≡ Ok x → VarintAt bytes at x.0 x.1
varint_found bytes at x are le e =
    let m = bind_ok (varint_from 9 (drop at bytes)) (λ (m : ℕ × ℕ). Ok (m.0, at + m.1)) x e in
    let pairs : pair m.0.0 (at + m.0.1) ≡ x = ok_pair m.2 in
    let value : m.0.0 ≡ x.0 = ap (λ (y : ℕ × ℕ). y.0) pairs in
    let stop : at + m.0.1 ≡ x.1 = ap (λ (y : ℕ × ℕ). y.1) pairs in
    let len : m.0.1 ≡ x.1 - at = omega (arith, stop) in
    let f = spells_found 9 (drop at bytes) m.0.0 m.0.1 m.1 in
    let size = varint_len 9 (drop at bytes) m.0.0 m.0.1 m.1 in
    let spelled : Spells (take (x.1 - at) (drop at bytes)) x.0 = subst (λ (k : ℕ). Spells (take k (drop at bytes)) x.0) len
    (subst (λ (v : ℕ). Spells (take m.0.1 (drop at bytes)) v) value f.0) in
    let small = small_found 9 (drop at bytes) m.0.0 m.0.1 (are_bytes-drop at bytes are) m.1 in
    record {
      begins = omega (arith, stop, size);
      inside = omega (arith, stop, size, length-drop at bytes, le);
      spelled = record { spells = spelled; short = omega (arith, length-take (x.1 - at) (drop at bytes), f.1, len); small = omega (arith, small, value) };
    }

-- if the bytes at a position spell a number, this number is read there
pub varint_only : (bytes : List ℕ) (at n last : ℕ) → VarintAt bytes at n last → varint_at bytes at ≡ Ok (n, last)
varint_only bytes at n last h =
    let len : length (take (last - at) (drop at bytes)) ≡ last - at =
    omega (arith, length-take (last - at) (drop at bytes), length-drop at bytes, h.inside, h.begins) in
    let whole : take (last - at) (drop at bytes) ++ drop (last - at) (drop at bytes) ≡ drop at bytes = take-append-drop (last - at) (drop at bytes) in
    let read = spells_read 9 (take (last - at) (drop at bytes)) (drop (last - at) (drop at bytes)) n h.spelled.spells
    (omega (arith, h.spelled.short)) h.spelled.small in
    let there : varint_from 9 (drop at bytes) ≡ Ok (n, last - at) = ap (varint_from 9) (sym whole) ∙ read ∙ ap (λ (k : ℕ). Ok (n, k)) len in
    let stop : at + (last - at) ≡ last = omega (arith, h.begins) in
    rw (there, stop) refl

-- ---- the shortest spelling

pub shortest_step : (more n : ℕ) → 0 < more → 128 ≤ n → shortest more n ≡ (128 + n % 128) ∷ shortest (more - 1) (n / 128)
unfolding shortest
shortest_step zero n few large = absurd (omega arith)
shortest_step (suc more) n few large =
    let no : ltb n 128 ≡ false = le-ltb _ _ large in
    let e : suc more - 1 ≡ more = omega arith in
    rw (no, e) refl

-- the shortest spelling of a number below 128 is read as that number, whatever follows
again_short : (more n : ℕ) (rest : List ℕ) → n < 128 → varint_from (suc more) (shortest (suc more) n ++ rest) ≡ Ok (n, length (shortest (suc more) n))
unfolding shortest varint_from
again_short more n rest lt = let yes : ltb n 128 ≡ true = lt-ltb _ _ lt in rw (yes, yes) refl

again_long : (more n : ℕ) (rest : List ℕ) → 128 ≤ n → varint_from more (shortest more (n / 128) ++ rest) ≡ Ok (n / 128, length (shortest more (n / 128)))
    → varint_from (suc more) (shortest (suc more) n ++ rest) ≡ Ok (n, length (shortest (suc more) n))
unfolding shortest varint_from
again_long more n rest le again =
    let no : ltb n 128 ≡ false = le-ltb _ _ le in
    let high : ltb (128 + n % 128) 128 ≡ false = le-ltb _ _ (omega arith) in
    let value : (128 + n % 128) - 128 + 128 * (n / 128) ≡ n = omega arith in
    rw (no, high, again, value) refl

pub varint_again : (more n : ℕ) (rest : List ℕ) → n < varint_limit more → varint_from more (shortest more n ++ rest) ≡ Ok (n, length (shortest more n))
unfolding shortest varint_from
varint_again zero n rest small =
    let no : ltb 1 n ≡ false = le-ltb _ _ (omega arith) in
    rw no refl
varint_again (suc more) n rest small =
    elim (cases_lt n 128) [ inl lt ↦ again_short more n rest lt | inr le ↦ again_long more n rest le (varint_again more (n / 128) rest (omega arith)) ]

-- the shortest spelling of a number has at least one byte
pub shortest_some : (more n : ℕ) → 0 < length (shortest more n)
unfolding shortest
shortest_some zero n = omega arith
shortest_some (suc more) n = go (ltb n 128) refl where
  go : (b : Bool) → ltb n 128 ≡ b → 0 < length (shortest (suc more) n)
  go true e = rw e (omega arith)
  go false e = rw e (omega arith)

-- the shortest spelling of a number below the limit consists of bytes
pub shortest_bytes : (more n : ℕ) → n < varint_limit more → AreBytes (shortest more n)
unfolding shortest
shortest_bytes zero n small = (omega arith, tt)
shortest_bytes (suc more) n small = go (ltb n 128) refl (shortest_bytes more (n / 128) (omega arith)) where
  go : (b : Bool) → ltb n 128 ≡ b → AreBytes (shortest more (n / 128)) → AreBytes (shortest (suc more) n)
  go true e rest = rw e ((omega (arith, ltb-true n 128 e), tt))
  go false e rest = rw e ((omega arith, rest))

-- no spelling of a number in bytes has fewer bytes than the shortest spelling
pub least_spelling : (more n : ℕ) (other : List ℕ) → AreBytes other → Spells other n → length (shortest more n) ≤ length other
unfolding shortest
least_spelling zero n [] are h = absurd h
least_spelling zero n (b ∷ other) are h = omega arith
least_spelling (suc more) n [] are h = absurd h
least_spelling (suc more) n (b ∷ []) are h =
    let yes : ltb n 128 ≡ true = lt-ltb _ _ (omega (arith, h.0, h.1)) in rw yes (omega arith)
least_spelling (suc more) n (b ∷ c ∷ other) are h = go (ltb n 128) refl (least_spelling more h.1 (c ∷ other) are.1 h.3) where
  go : (t : Bool) → ltb n 128 ≡ t → length (shortest more h.1) ≤ length (c ∷ other) → length (shortest (suc more) n) ≤ length (b ∷ c ∷ other)
  go true e rest = rw e (omega arith)
  go false e rest =
      let high : n / 128 ≡ h.1 = omega (arith, h.0, h.2, are.0) in
      rw (e, high) (omega (arith, rest))

pub is_shortest : (n : ℕ) → n < 2 ^ 64 → IsShortest (varint_text n) n
is_shortest n small =
    let again = varint_again 9 n [] small in
    let found = spells_found 9 (shortest 9 n ++ []) n (length (shortest 9 n)) again in
    let whole : take (length (shortest 9 n)) (shortest 9 n ++ []) ≡ shortest 9 n = take_at (shortest 9 n) [] (length (shortest 9 n)) refl in
    record {
      is_one = record { spells = subst (λ xs. Spells xs n) whole found.0; short = found.1; small = small };
      bytes = shortest_bytes 9 n small;
      least = λ other are h. least_spelling 9 n other are h.spells;
    }

pub reads_back : (n : ℕ) (rest : List ℕ) → n < 2 ^ 64 → varint_at (varint_text n ++ rest) 0 ≡ Ok (n, length (varint_text n))
reads_back n rest small = varint_read [] (varint_text n) rest n 0 refl (is_shortest n small).is_one
    ∙ ap (λ (k : ℕ). Ok (n, k)) (zero-add (length (varint_text n)))
