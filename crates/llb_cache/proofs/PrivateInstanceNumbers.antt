-- The number of the private instance that a lease takes: no lease has it, leases have all lower ones, and it is at most the number of leases.
use Rattle.std.proofs.Common.{◌≡◌, ◌≢◌, ℕ, zero, suc, ◌+◌, ◌<◌, ◌≤◌, Bool, true, false, cond, ◌&&◌, List, [], ◌∷◌, length, Option, Some}
use Rattle.std.proofs.Common.{None, is_some, refl, sym, ap, ◌∙◌, arith, inl, inr, ◌⊎◌, true≢false}
use Rattle.std.specs.List.{AllPairs}
use Rattle.std.proofs.lemmas.Bool.{false_from_ne_true}
use Rattle.std.proofs.lemmas.List.Elements.{All-contains}
use Rattle.std.proofs.lemmas.List.Sums.{sum_by-cons}
use native.Mathlib.Decide.{dec_lt}
use Rattle.llb_cache.specs.declared.key.Key.{Key}
use Rattle.llb_cache.specs.declared.key.Mode.{Mode}
use Rattle.llb_cache.specs.declared.key.Mode.TheVariants.{Shared, Private, Locked}
use Rattle.llb_cache.specs.declared.lease_needs.Instance.{Instance}
use Rattle.llb_cache.specs.Key.{same_key}
use Rattle.llb_cache.specs.KeyEquality.{same_keys, key_itself}
use Rattle.llb_cache.specs.Caches.{Row, Leases, place, is_held, leases, first_free, number_for, is_locked, IsExclusive, Has, AreApart, AreThere, trees_of}
use Rattle.llb_cache.proofs.ListMembership.{In, contained_in, pairs_head, pairs_tail, no_fewer}
use Rattle.llb_cache.proofs.InstanceHolders.{holder}

-- ---- a lease has at most one instance of a key

-- the number of the instance of this key among some instances; 0 if there is none
number_in : Key → List Instance → ℕ
number_in key [] = 0
number_in key (p ∷ ps) = cond (same_key key p.key) p.number (number_in key ps)

numbers : Key → Leases → List ℕ
numbers key [] = []
numbers key (None ∷ out) = numbers key out
numbers key (Some ps ∷ out) = number_in key ps ∷ numbers key out

numbers_leases : (key : Key) (out : Leases) → length (numbers key out) ≡ leases out
unfolding numbers
numbers_leases key [] = refl
numbers_leases key (None ∷ out) = numbers_leases key out
numbers_leases key (Some ps ∷ out) =
    let rest = numbers_leases key out in
    let one = sum_by-cons (λ (o : Option (List Instance)). cond (is_some o) 1 0) (Some ps) out in
    omega (arith, rest, one)

-- no two instances have the same key
abbrev Differ : List Instance → Type 0
Differ ps = AllPairs (λ p q. p.key ≢ q.key) ps

number_is : (key : Key) (k : ℕ) (ps : List Instance) → Differ ps → In ps (place key k) → number_in key ps ≡ k
unfolding number_in
number_is key k [] apart h = absurd h
number_is key k (p ∷ ps) apart (inl is) =
    ap (λ (q : Instance). cond (same_key key q.key) q.number (number_in key ps)) (sym is) ∙ ap (λ b. cond b k (number_in key ps)) (key_itself key)
number_is key k (p ∷ ps) apart (inr h) = go (same_key key p.key) refl (number_is key k ps (pairs_tail (λ p q. p.key ≢ q.key) p ps apart) h)
  where
    go : (b : Bool) → same_key key p.key ≡ b → number_in key ps ≡ k → cond b p.number (number_in key ps) ≡ k
    go true is rest = absurd (pairs_head (λ p q. p.key ≢ q.key) p ps apart (place key k) h (sym (same_keys key p.key is)))
    go false is rest = rest

held_number : (key : Key) (k : ℕ) (out : Leases) (a : ℕ) (ps : List Instance) → Has out a ps → Differ ps → In ps (place key k) → In (numbers key out) k
unfolding numbers
held_number key k [] a ps at apart h = absurd cc
held_number key k (None ∷ out) zero ps at apart h = absurd cc
held_number key k (None ∷ out) (suc a) ps at apart h = held_number key k out a ps at apart h
held_number key k (Some qs ∷ out) zero ps at apart h =
    let same : qs ≡ ps = cc in
    inl (sym (ap (number_in key) same ∙ number_is key k ps apart h))
held_number key k (Some qs ∷ out) (suc a) ps at apart h = inr (held_number key k out a ps at apart h)

-- if leases have the instances of a key with all numbers below n, there are at least n leases
pub held_below : (key : Key) (out : Leases) (n : ℕ) → AreApart out → ((k : ℕ) → k < n → is_held out (place key k) ≡ true) → n ≤ leases out
held_below key out n apart all =
    let count = numbers_leases key out in
    let within = no_fewer n (numbers key out)
    (λ k below. let h = holder out (place key k) (all k below) in held_number key k out h.0 h.1 h.2 (apart h.0 h.1 h.2) h.3) in
    omega (arith, count, within)

-- ---- the least free number

-- r is the least of the `more` numbers from n up whose instance no lease has, or n + more if leases have all of them
pub record Least (out : Leases) (key : Key) (n more r : ℕ) : Type 0 where
  pub within : r ≤ n + more
  pub below : (k : ℕ) → n ≤ k → k < r → is_held out (place key k) ≡ true
  pub free : r < n + more → is_held out (place key r) ≡ false

at_or_past : (n k : ℕ) → n ≤ k → (n ≡ k) ⊎ (n + 1 ≤ k)
at_or_past n k from = elim (dec_lt n k) [ yes later ↦ inr (omega (arith, later)) | no none ↦ inl (omega (arith, from, none)) ]

least : (out : Leases) (key : Key) (n more : ℕ) → Least out key n more (first_free out key n more)
unfolding first_free
least out key n zero = record { within = omega arith; below = λ k from to. absurd (omega (arith, from, to)); free = λ h. absurd (omega (arith, h)) }
least out key n (suc more) = go (is_held out (place key n)) refl (least out key (n + 1) more)
  where
    go : (b : Bool) → is_held out (place key n) ≡ b → Least out key (n + 1) more (first_free out key (n + 1) more)
        → Least out key n (suc more) (cond b (first_free out key (n + 1) more) n)
    go true is rest = record {
      within = let w = rest.within in omega (arith, w);
      below = λ k from to. elim (at_or_past n k from) [
        | inl same ↦ ap (λ m. is_held out (place key m)) (sym same) ∙ is
        | inr later ↦ rest.below k later to
      ];
      free = λ h. rest.free (omega (arith, h));
    }
    go false is rest = record { within = omega arith; below = λ k from to. absurd (omega (arith, from, to)); free = λ _. is }

-- no lease has the private instance that is chosen for a key
private_free : (out : Leases) (key : Key) → AreApart out → is_held out (place key (first_free out key 0 (leases out))) ≡ false
private_free out key apart = go (first_free out key 0 (leases out)) (least out key 0 (leases out))
  where
    go : (r : ℕ) → Least out key 0 (leases out) r → is_held out (place key r) ≡ false
    go r l = false_from_ne_true (is_held out (place key r)) (λ is.
        let all = held_below key out (r + 1) apart (λ k below. elim (at_or_past k r (omega (arith, below))) [
          | inl same ↦ ap (λ m. is_held out (place key m)) same ∙ is
          | inr before ↦ l.below k (omega arith) (omega (arith, before))
        ]) in
        let free = l.free (omega (arith, all)) in
        true≢false (sym is ∙ free))

-- if no lease has the instance with number r, and leases have all lower ones, r is the number that is chosen for the key
pub first_unheld : (out : Leases) (key : Key) (r : ℕ) → AreApart out → ((k : ℕ) → k < r → is_held out (place key k) ≡ true)
    → is_held out (place key r) ≡ false → first_free out key 0 (leases out) ≡ r
first_unheld out key r apart below free =
    let l = least out key 0 (leases out) in
    elim (dec_lt (first_free out key 0 (leases out)) r) [
      | yes less ↦ absurd (true≢false (sym (below (first_free out key 0 (leases out)) less) ∙ private_free out key apart))
      | no past ↦ elim (dec_lt r (first_free out key 0 (leases out))) [
        | yes more ↦ absurd (true≢false (sym (l.below r (omega arith) more) ∙ free))
        | no none ↦ omega (arith, past, none)
      ]
    ]

pub number_within : (out : Leases) (key : Key) (m : Mode) → number_for out key m ≤ leases out
number_within out key Shared = omega arith
number_within out key Locked = omega arith
number_within out key Private = let w = (least out key 0 (leases out)).within in omega (arith, w)

-- no lease has the instance that is chosen for a private or a locked key
pub number_free : (out : Leases) (key : Key) (m : Mode) → AreApart out → (is_locked m && is_held out (place key 0)) ≡ false → IsExclusive m
    → is_held out (place key (number_for out key m)) ≡ false
number_free out key Shared apart unheld alone = absurd alone
number_free out key Locked apart unheld alone = unheld
number_free out key Private apart unheld alone = private_free out key apart

up_to : (r n : ℕ) → ((k : ℕ) → k < r → k < n) → r ≤ n
up_to zero n all = omega arith
up_to (suc r) n all = let last = all r (omega arith) in omega (arith, last)

-- the number that is chosen for a key is that of an instance that exists, or the next one
pub number_next : (rows : List Row) (out : Leases) (key : Key) (m : Mode) → AreThere rows out → number_for out key m ≤ length (trees_of rows key)
number_next rows out key Shared there = omega arith
number_next rows out key Locked there = omega arith
number_next rows out key Private there =
    let l = least out key 0 (leases out) in
    up_to (first_free out key 0 (leases out)) (length (trees_of rows key))
    (λ k below. let h = holder out (place key k) (l.below k (omega arith) below) in
    All-contains (λ (p : Instance). p.number < length (trees_of rows p.key)) h.1 (place key k) (there h.0 h.1 h.2) (contained_in h.1 (place key k) h.3))
