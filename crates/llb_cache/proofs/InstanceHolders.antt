-- Which leases have an instance, and who has what after a lease and after its end.
use Rattle.std.proofs.Common.{slice_get, ◌≡◌, ℕ, zero, suc, ◌+◌, ◌<◌, ◌≤◌, Bool, true, false, cond, ◌&&◌, List, [], ◌∷◌, ◌++◌, length}
use Rattle.std.proofs.Common.{Option, Some, None, is_some, slice_set, get_or, take, unwrap_or, nat_lt, refl, sym, ap, ◌∙◌, arith, inl, inr}
use Rattle.std.proofs.Common.{◌⊎◌, length-append}
use Rattle.std.specs.List.{list_any}
use Rattle.std.proofs.lemmas.Bool.{and_parts, or_cases, or_left, or_right, eqb-true, eq-eqb, ltb-false, ltb-true}
use Rattle.std.proofs.lemmas.List.{length-set, take_more}
use Rattle.std.proofs.lemmas.List.Sums.{prefix_len-le-length, sum_by-cons}
use Rattle.llb_cache.specs.declared.lease_needs.Instance.{Instance}
use Rattle.llb_cache.specs.Key.{same_key}
use Rattle.llb_cache.specs.KeyEquality.{same_keys, key_itself}
use Rattle.llb_cache.specs.Caches.{Leases, same_place, has, is_held, leases, free_lease, with_lease, before, trimmed, Has}
use Rattle.llb_cache.proofs.ListMembership.{In}

-- ---- facts about the tests of instances and leases

pub same_places : (p q : Instance) → same_place p q ≡ true → p ≡ q
same_places p q e =
    let h = and_parts _ _ e in
    let number = eqb-true p.number q.number h.0 in
    let key = same_keys p.key q.key h.1 in
    λ i. record { key = key i; number = number i }

pub place_itself : (p : Instance) → same_place p p ≡ true
place_itself p = ap (λ b. b && same_key p.key p.key) (eq-eqb p.number p.number refl) ∙ key_itself p.key

any_in : (p : Instance) (ps : List Instance) → list_any (same_place p) ps ≡ true → In ps p
any_in p [] e = absurd cc
any_in p (q ∷ ps) e = elim (or_cases (same_place p q) (list_any (same_place p) ps) e) [
  | inl here ↦ inl (same_places p q here)
  | inr later ↦ inr (any_in p ps later)
]

pub in_any : (p : Instance) (ps : List Instance) → In ps p → list_any (same_place p) ps ≡ true
in_any p [] h = absurd h
in_any p (q ∷ ps) (inl is) = or_left _ (list_any (same_place p) ps) (ap (same_place p) (sym is) ∙ place_itself p)
in_any p (q ∷ ps) (inr h) = or_right (same_place p q) _ (in_any p ps h)

pub in_place : (p : Instance) (ps : List Instance) → has p (Some ps) ≡ true → In ps p
in_place p ps e = any_in p ps e

-- what a lease has is held
pub held_by : (out : Leases) (a : ℕ) (ps : List Instance) (p : Instance) → Has out a ps → In ps p → is_held out p ≡ true
unfolding is_held
held_by [] a ps p at h = absurd cc
held_by (o ∷ out) zero ps p at h = let is : o ≡ Some ps = ap (λ x. unwrap_or x o) at in or_left _ (list_any (has p) out) (ap (has p) is ∙ in_any p ps h)
held_by (o ∷ out) (suc a) ps p at h = or_right (has p o) _ (held_by out a ps p at h)

-- an instance that is held belongs to some lease
pub holder : (out : Leases) (p : Instance) → is_held out p ≡ true → (a : ℕ) × (ps : List Instance) × Has out a ps × In ps p
unfolding is_held
holder [] p e = absurd cc
holder (None ∷ out) p e = let rest = holder out p e in (suc rest.0, rest.1, rest.2, rest.3)
holder (Some ps ∷ out) p e = elim (or_cases (has p (Some ps)) (list_any (has p) out) e) [
  | inl here ↦ (0, ps, refl, any_in p ps here)
  | inr later ↦ let rest = holder out p later in (suc rest.0, rest.1, rest.2, rest.3)
]

-- ---- after one more lease is granted

-- after entry n of the list is set to x, lease a with these instances is the new one, or it was there before
abbrev pub Either : Leases → ℕ → Option (List Instance) → ℕ → List Instance → Type 0
Either out n x a qs = ((a ≡ n) × (x ≡ Some qs)) ⊎ Has out a qs

set_cases : (out : Leases) (n : ℕ) (x : Option (List Instance)) (a : ℕ) (qs : List Instance) → Has (slice_set out n x) a qs → Either out n x a qs
set_cases [] n x a qs at = inr at
set_cases (o ∷ out) zero x zero qs at = inl (refl, ap (λ r. unwrap_or r x) at)
set_cases (o ∷ out) zero x (suc a) qs at = inr at
set_cases (o ∷ out) (suc n) x zero qs at = inr at
set_cases (o ∷ out) (suc n) x (suc a) qs at = elim (set_cases out n x a qs at) [
  | inl h ↦ inl (ap suc h.0, h.1)
  | inr h ↦ inr h
]

push_cases : (out : Leases) (x : Option (List Instance)) (a : ℕ) (qs : List Instance) → Has (out ++ x ∷ []) a qs → Either out (length out) x a qs
push_cases [] x zero qs at = inl (refl, ap (λ r. unwrap_or r x) at)
push_cases [] x (suc a) qs at = absurd cc
push_cases (o ∷ out) x zero qs at = inr at
push_cases (o ∷ out) x (suc a) qs at = elim (push_cases out x a qs at) [
  | inl h ↦ inl (ap suc h.0, h.1)
  | inr h ↦ inr h
]

some_same : (ps qs : List Instance) → Some ps ≡ Some qs → ps ≡ qs
some_same ps qs e = ap (λ o. unwrap_or o ps) e

pub free_within : (out : Leases) → free_lease out ≤ length out
free_within out = prefix_len-le-length _ out

-- if no number is free, every number of the list is a current lease
pub all_out : (out : Leases) → length out ≤ free_lease out → leases out ≡ length out
all_out [] h = refl
all_out (None ∷ out) h = absurd (omega (arith, h))
all_out (Some ps ∷ out) h =
    let first : free_lease (Some ps ∷ out) ≡ 1 + free_lease out = refl in
    let one : leases (Some ps ∷ out) ≡ 1 + leases out = sum_by-cons (λ (o : Option (List Instance)). cond (is_some o) 1 0) (Some ps) out in
    let rest = all_out out (omega (arith, h, first)) in
    omega (arith, rest, one)

-- after one more lease each current lease is that one, or it was current before
pub lease_cases : (out : Leases) (ps : List Instance) (a : ℕ) (qs : List Instance) → Has (with_lease out (free_lease out) ps) a qs
    → ((a ≡ free_lease out) × (ps ≡ qs)) ⊎ Has out a qs
lease_cases out ps a qs = go (nat_lt (free_lease out) (length out)) refl
  where
    go : (b : Bool) → nat_lt (free_lease out) (length out) ≡ b
        → Has (cond b (slice_set out (free_lease out) (Some ps)) (out ++ Some ps ∷ [])) a qs → ((a ≡ free_lease out) × (ps ≡ qs)) ⊎ Has out a qs
    go true is at = elim (set_cases out (free_lease out) (Some ps) a qs at) [
      | inl h ↦ inl (h.0, some_same ps qs h.1)
      | inr h ↦ inr h
    ]
    go false is at = elim (push_cases out (Some ps) a qs at) [
      | inl h ↦ let past = ltb-false (free_lease out) (length out) is in let within = free_within out in let n =
          h.0 in inl (omega (arith, n, past, within), some_same ps qs h.1)
      | inr h ↦ inr h
    ]

pub lease_short : (out : Leases) (ps : List Instance) → length out ≤ 65536 → leases out < 65536 → length (with_lease out (free_lease out) ps) ≤ 65536
lease_short out ps short few = go (nat_lt (free_lease out) (length out)) refl
  where
    go : (b : Bool) → nat_lt (free_lease out) (length out) ≡ b → length (cond b (slice_set out (free_lease out) (Some ps)) (out ++ Some ps ∷ [])) ≤ 65536
    go true is = let same = length-set out (free_lease out) (Some ps) in omega (arith, same, short)
    go false is =
        let past = ltb-false (free_lease out) (length out) is in
        let all = all_out out past in
        let more = length-append out (Some ps ∷ []) in
        omega (arith, all, few, more)

-- ---- after a lease is given back

before_has : (less out : Leases) (a : ℕ) (qs : List Instance) → Has (before less) a qs → ((b : ℕ) → Has less b qs → Has out b qs) → Has (None ∷ out) a qs
before_has [] out a qs at rest = absurd cc
before_has (o ∷ less) out zero qs at rest = at
before_has (o ∷ less) out (suc a) qs at rest = rest a at

before_short : (less : Leases) → length (before less) ≤ length less + 1
before_short [] = omega arith
before_short (o ∷ less) = omega arith

pub trimmed_has : (out : Leases) (a : ℕ) (qs : List Instance) → Has (trimmed out) a qs → Has out a qs
unfolding trimmed
trimmed_has [] a qs at = at
trimmed_has (Some ps ∷ out) zero qs at = at
trimmed_has (Some ps ∷ out) (suc a) qs at = trimmed_has out a qs at
trimmed_has (None ∷ out) a qs at = before_has (trimmed out) out a qs at (λ b. trimmed_has out b qs)

trimmed_short : (out : Leases) → length (trimmed out) ≤ length out
unfolding trimmed
trimmed_short [] = omega arith
trimmed_short (Some ps ∷ out) = let rest = trimmed_short out in omega (arith, rest)
trimmed_short (None ∷ out) = let rest = trimmed_short out in let one = before_short (trimmed out) in omega (arith, rest, one)

-- after a lease is given back each current lease was current before
pub back_cases : (out : Leases) (n : ℕ) (a : ℕ) (qs : List Instance) → Has (trimmed (slice_set out n None)) a qs → Has out a qs
back_cases out n a qs at = elim (set_cases out n None a qs (trimmed_has (slice_set out n None) a qs at)) [
  | inl h ↦ absurd (let e = h.1 in cc)
  | inr h ↦ h
]

pub back_short : (out : Leases) (n : ℕ) → length (trimmed (slice_set out n None)) ≤ length out
back_short out n = let less = trimmed_short (slice_set out n None) in let same = length-set out n None in omega (arith, less, same)

-- a list that ends with a current lease stays as it is when it is trimmed
pub trimmed_some : (out : Leases) (ps : List Instance) → trimmed (out ++ Some ps ∷ []) ≡ out ++ Some ps ∷ []
unfolding trimmed
trimmed_some [] ps = refl
trimmed_some (Some qs ∷ out) ps = ap (λ o. Some qs ∷ o) (trimmed_some out ps)
trimmed_some (None ∷ out) ps = ap before (trimmed_some out ps) ∙ more out
  where
    more : (out : Leases) → before (out ++ Some ps ∷ []) ≡ None ∷ (out ++ Some ps ∷ [])
    more [] = refl
    more (o ∷ out) = refl

pub trimmed_none : (out : Leases) → trimmed (out ++ None ∷ []) ≡ trimmed out
unfolding trimmed
trimmed_none [] = refl
trimmed_none (Some qs ∷ out) = ap (λ o. Some qs ∷ o) (trimmed_none out)
trimmed_none (None ∷ out) = ap before (trimmed_none out)

pub trimmed_nothing : trimmed [] ≡ []
unfolding trimmed
trimmed_nothing = refl

-- a trimmed list stays as it is when it is trimmed again: after a lease is given back, and after one more is granted
pub trimmed_twice : (out : Leases) → trimmed (trimmed out) ≡ trimmed out
unfolding trimmed
trimmed_twice [] = refl
trimmed_twice (Some ps ∷ out) = ap (λ o. Some ps ∷ o) (trimmed_twice out)
trimmed_twice (None ∷ out) = go (trimmed out) (trimmed_twice out)
  where
    go : (less : Leases) → trimmed less ≡ less → trimmed (before less) ≡ before less
    go [] same = refl
    go (o ∷ less) same = ap before same

nothing_before : (less out : Leases) → before less ≡ None ∷ out → less ≡ out
nothing_before [] out e = absurd cc
nothing_before (o ∷ less) out e = cc

before_set : (out : Leases) (n : ℕ) (o : Option (List Instance)) → before out ≡ None ∷ out → before (slice_set out n o) ≡ None ∷ slice_set out n o
before_set [] n o e = absurd cc
before_set (x ∷ out) zero o e = refl
before_set (x ∷ out) (suc n) o e = refl

trimmed_set : (out : Leases) (n : ℕ) (ps : List Instance) → trimmed out ≡ out → trimmed (slice_set out n (Some ps)) ≡ slice_set out n (Some ps)
unfolding trimmed
trimmed_set [] n ps same = refl
trimmed_set (Some qs ∷ out) zero ps same = ap (λ o. Some ps ∷ o) cc
trimmed_set (Some qs ∷ out) (suc n) ps same = ap (λ o. Some qs ∷ o) (trimmed_set out n ps cc)
trimmed_set (None ∷ out) zero ps same = ap (λ o. Some ps ∷ o) (nothing_before (trimmed out) out same)
trimmed_set (None ∷ out) (suc n) ps same =
    let less = nothing_before (trimmed out) out same in
    ap before (trimmed_set out n ps less) ∙ before_set out n (Some ps) (ap before (sym less) ∙ same)

pub trimmed_lease : (out : Leases) (n : ℕ) (ps : List Instance) → trimmed out ≡ out → trimmed (with_lease out n ps) ≡ with_lease out n ps
trimmed_lease out n ps same = go (nat_lt n (length out))
  where
    go : (b : Bool) → trimmed (cond b (slice_set out n (Some ps)) (out ++ Some ps ∷ [])) ≡ cond b (slice_set out n (Some ps)) (out ++ Some ps ∷ [])
    go true = trimmed_set out n ps same
    go false = trimmed_some out ps

-- if no lease is current, a trimmed list of leases is empty
pub none_out : (out : Leases) → trimmed out ≡ out → leases out ≡ 0 → out ≡ []
unfolding trimmed
none_out [] same none = refl
none_out (Some ps ∷ out) same none =
    let one : leases (Some ps ∷ out) ≡ 1 + leases out = sum_by-cons (λ (o : Option (List Instance)). cond (is_some o) 1 0) (Some ps) out in
    absurd (omega (arith, none, one))
none_out (None ∷ out) same none =
    let less = nothing_before (trimmed out) out same in
    let one : leases (None ∷ out) ≡ 0 + leases out = sum_by-cons (λ (o : Option (List Instance)). cond (is_some o) 1 0) None out in
    let rest = none_out out less (omega (arith, none, one)) in
    let e = ap before (less ∙ rest) in absurd cc

-- trimming the first i + 1 leases changes nothing if lease i is current; if it is not, the result is that for the first i leases
pub trimmed_at_some : (out : Leases) (i : ℕ) (o : Option (List Instance)) → i < length out → o ≡ get_or out i o → is_some o ≡ true
    → trimmed (take (i + 1) out) ≡ take (i + 1) out
trimmed_at_some out i None below read is = absurd cc
trimmed_at_some out i (Some ps) below read is =
    let more : take (i + 1) out ≡ take i out ++ Some ps ∷ [] = take_more out i (Some ps) below ∙ ap (λ o. take i out ++ o ∷ []) (sym read) in
    ap trimmed more ∙ trimmed_some (take i out) ps ∙ sym more

pub trimmed_at_none : (out : Leases) (i : ℕ) (o : Option (List Instance)) → i < length out → o ≡ get_or out i o → is_some o ≡ false
    → trimmed (take (i + 1) out) ≡ trimmed (take i out)
trimmed_at_none out i (Some ps) below read is = absurd cc
trimmed_at_none out i None below read is =
    let more : take (i + 1) out ≡ take i out ++ None ∷ [] = take_more out i None below ∙ ap (λ o. take i out ++ o ∷ []) (sym read) in
    ap trimmed more ∙ trimmed_none (take i out)

-- a lease has its instances right after it is granted
set_here : (out : Leases) (n : ℕ) (x : Option (List Instance)) → n < length out → slice_get (slice_set out n x) n ≡ Some x
set_here [] n x below = absurd (omega (arith, below))
set_here (o ∷ out) zero x below = refl
set_here (o ∷ out) (suc n) x below = set_here out n x (omega (arith, below))

push_here : (out : Leases) (x : Option (List Instance)) → slice_get (out ++ x ∷ []) (length out) ≡ Some x
push_here [] x = refl
push_here (o ∷ out) x = push_here out x

pub lease_has : (out : Leases) (ps : List Instance) → Has (with_lease out (free_lease out) ps) (free_lease out) ps
lease_has out ps = go (nat_lt (free_lease out) (length out)) refl
  where
    go : (b : Bool) → nat_lt (free_lease out) (length out) ≡ b
        → Has (cond b (slice_set out (free_lease out) (Some ps)) (out ++ Some ps ∷ [])) (free_lease out) ps
    go true is = set_here out (free_lease out) (Some ps) (ltb-true (free_lease out) (length out) is)
    go false is =
        let past = ltb-false (free_lease out) (length out) is in
        let within = free_within out in
        let same : free_lease out ≡ length out = omega (arith, past, within) in
        ap (slice_get (out ++ Some ps ∷ [])) same ∙ push_here out (Some ps)
