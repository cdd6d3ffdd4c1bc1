-- The marks of locked and private keys are exact after each call.
use Rattle.std.proofs.Common.{◌≡◌, ◌≢◌, ℕ, zero, suc, ◌+◌, ◌<◌, Bool, true, false, cond, List, [], ◌∷◌, ◌++◌, length, map, Option, Some, None, refl, sym, ap}
use Rattle.std.proofs.Common.{◌∙◌, subst, arith, true≢false, find, slice_get, slice_set, unwrap_or, nat_lt, inl, inr}
use Rattle.std.specs.Cmp.{both_ways}
use Rattle.std.specs.List.{AllPairs}
use Rattle.std.proofs.lemmas.Bool.{false_from_ne_true}
use Rattle.std.specs.Map.{keys_of}
use Rattle.llb_tree.specs.Tree.{TreeMap}
use Rattle.llb_cache.specs.declared.lease_needs.Need.{Need}
use Rattle.llb_cache.specs.declared.lease_needs.Instance.{Instance}
use Rattle.llb_cache.specs.Caches.{CachesValue, Row, Leases, taken, is_locked_and_held, is_held, leases, granted, with_lease, free_lease, put, given_back}
use Rattle.llb_cache.specs.Caches.{trimmed, before}
use Rattle.llb_cache.specs.Caches.{places_of, IsCaches, IsExclusive, Has}
use Rattle.llb_cache.proofs.FirstRowOfKey.{keys_long}
use Rattle.llb_cache.proofs.ListMembership.{In, contained_in}
use Rattle.llb_cache.proofs.InstanceHolders.{held_by, holder, in_any, in_place, lease_cases, lease_has, back_cases, trimmed_has}
use Rattle.llb_cache.specs.InstanceMarks.{marked, Remarks, is_one_of, IsMarked}
use Rattle.llb_cache.proofs.CacheInvariant.{nothing_kept, lease_keeps, put_keeps, back_keeps}

-- no cache and no lease
pub nothing_marked : IsMarked (record { rows = []; out = [] }) []
unfolding marked is_held
nothing_marked = record { caches = nothing_kept; each = refl; exact = λ p alone. refl }

-- a tree that is written to an instance
pub put_marked : (c : CachesValue) (p : Instance) (tree : TreeMap) (marks : List (List Bool)) (rows : List Row) → rows ≡ put c.rows p tree
    → keys_of rows ≡ keys_of c.rows → IsMarked c marks → IsMarked (record c { rows = rows }) marks
put_marked c p tree marks rows written keys is = record {
  caches = subst (λ (r : List Row). IsCaches (record c { rows = r })) (sym written) (put_keeps c p tree is.caches);
  each = is.each ∙ sym (keys_long c.rows) ∙ ap length (sym keys) ∙ keys_long rows;
  exact = λ q alone. ap (λ ks. marked ks marks q) keys ∙ is.exact q alone;
}

-- ---- who has an instance after a lease, and after its end

set_other : (out : Leases) (n a : ℕ) (x : Option (List Instance)) (qs : List Instance) → a ≢ n → Has out a qs → Has (slice_set out n x) a qs
set_other [] n a x qs other at = at
set_other (o ∷ out) zero zero x qs other at = absurd (other refl)
set_other (o ∷ out) zero (suc a) x qs other at = at
set_other (o ∷ out) (suc n) zero x qs other at = at
set_other (o ∷ out) (suc n) (suc a) x qs other at = set_other out n a x qs (λ e. other (ap suc e)) at

push_other : (out : Leases) (x : Option (List Instance)) (a : ℕ) (qs : List Instance) → Has out a qs → Has (out ++ x ∷ []) a qs
push_other [] x a qs at = absurd (let e = at in cc)
push_other (o ∷ out) x zero qs at = at
push_other (o ∷ out) x (suc a) qs at = push_other out x a qs at

not_free : (out : Leases) (a : ℕ) (qs : List Instance) → Has out a qs → a ≢ free_lease out
not_free [] a qs at e = absurd (let h = at in cc)
not_free (None ∷ out) zero qs at e = absurd (let h = at in cc)
not_free (None ∷ out) (suc a) qs at e = absurd (omega (arith, e))
not_free (Some ps ∷ out) zero qs at e = let first : free_lease (Some ps ∷ out) ≡ 1 + free_lease out = refl in absurd (omega (arith, e, first))
not_free (Some ps ∷ out) (suc a) qs at e =
    let first : free_lease (Some ps ∷ out) ≡ 1 + free_lease out = refl in not_free out a qs at (omega (arith, e, first))

still_out : (out : Leases) (ps : List Instance) (a : ℕ) (qs : List Instance) → Has out a qs → Has (with_lease out (free_lease out) ps) a qs
still_out out ps a qs at = go (nat_lt (free_lease out) (length out))
  where
    go : (b : Bool) → Has (cond b (slice_set out (free_lease out) (Some ps)) (out ++ Some ps ∷ [])) a qs
    go true = set_other out (free_lease out) a (Some ps) qs (not_free out a qs at) at
    go false = push_other out (Some ps) a qs at

before_still : (less out : Leases) (a : ℕ) (qs : List Instance) → Has (None ∷ out) a qs → ((b : ℕ) → Has out b qs → Has less b qs) → Has (before less) a qs
before_still less out zero qs at rest = absurd (let h = at in cc)
before_still [] out (suc a) qs at rest = absurd (let h = rest a at in cc)
before_still (o ∷ less) out (suc a) qs at rest = rest a at

trimmed_still : (out : Leases) (a : ℕ) (qs : List Instance) → Has out a qs → Has (trimmed out) a qs
unfolding trimmed
trimmed_still [] a qs at = at
trimmed_still (Some ps ∷ out) zero qs at = at
trimmed_still (Some ps ∷ out) (suc a) qs at = trimmed_still out a qs at
trimmed_still (None ∷ out) a qs at = before_still (trimmed out) out a qs at (λ b. trimmed_still out b qs)

-- a lease that is given back has nothing
set_none : (out : Leases) (n : ℕ) (qs : List Instance) → Has (slice_set out n None) n qs → ⊥
set_none [] n qs at = let h = at in cc
set_none (o ∷ out) zero qs at = let h = at in cc
set_none (o ∷ out) (suc n) qs at = set_none out n qs at

-- what a lease has is had under its number
places_had : (out : Leases) (n : ℕ) (p : Instance) → In (places_of out n) p → Has out n (places_of out n)
places_had out n p h = go (slice_get out n) refl h
  where
    go : (o : Option (Option (List Instance))) → slice_get out n ≡ o → In (unwrap_or (unwrap_or o None) []) p → Has out n (unwrap_or (unwrap_or o None) [])
    go None is h = absurd h
    go (Some None) is h = absurd h
    go (Some (Some ps)) is h = is

of_number : (out : Leases) (n : ℕ) (ps : List Instance) → Has out n ps → places_of out n ≡ ps
of_number out n ps at = ap (λ o. unwrap_or (unwrap_or o None) []) at

-- nothing is out under the number that was given back
not_given : (out : Leases) (lease : ℕ) (qs : List Instance) → Has (trimmed (slice_set out lease None)) lease qs → ⊥
not_given out lease qs at = set_none out lease qs (trimmed_has (slice_set out lease None) lease qs at)

-- ---- a lease

-- after a lease, its instances are held, and those that were held before
pub later_held : (out : Leases) (ps : List Instance) (p : Instance)
    → cond (is_one_of ps p) true (is_held out p) ≡ is_held (with_lease out (free_lease out) ps) p
later_held out ps p = go (is_one_of ps p) refl
  where
    later : Leases
    later = with_lease out (free_lease out) ps

    go : (b : Bool) → is_one_of ps p ≡ b → cond b true (is_held out p) ≡ is_held later p
    go true mark = sym (held_by later (free_lease out) ps p (lease_has out ps) (in_place p ps mark))
    go false other = both_ways (is_held out p) (is_held later p)
        (λ held. let h = holder out p held in held_by later h.0 h.1 p (still_out out ps h.0 h.1 h.2) h.3)
        (λ held. let h = holder later p held in elim (lease_cases out ps h.0 h.1 h.2) [
          | inl now ↦ absurd (true≢false (sym (in_any p ps (subst (λ qs. In qs p) (sym now.1) h.3)) ∙ other))
          | inr old ↦ held_by out h.0 h.1 p old h.3
        ])

pub lease_marked : (c : CachesValue) (needs : List Need) (marks new : List (List Bool)) → IsMarked c marks → leases c.out < 65536
    → AllPairs (λ n m. n.key ≢ m.key) needs → find (is_locked_and_held c.out) needs ≡ None
    → Remarks (keys_of c.rows) marks (keys_of (granted c needs).1.rows) new (is_one_of (map (λ t. t.0) (taken c.out needs))) true
    → length new ≡ length (granted c needs).1.rows → IsMarked (granted c needs).1 new
lease_marked c needs marks new is few differ none remarks each = record {
  caches = lease_keeps c needs is.caches few differ none;
  each = each;
  exact = λ p alone. remarks p ∙ ap (λ b. cond (is_one_of mine p) true b) (is.exact p alone) ∙ later_held c.out mine p;
}
  where
    mine : List Instance
    mine = map (λ t. t.0) (taken c.out needs)

-- ---- the end of a lease

pub back_marked : (c : CachesValue) (lease : ℕ) (marks new : List (List Bool)) → IsMarked c marks
    → Remarks (keys_of c.rows) marks (keys_of c.rows) new (is_one_of (places_of c.out lease)) false → length new ≡ length marks
    → IsMarked (given_back c lease) new
back_marked c lease marks new is remarks each = record {
  caches = back_keeps c lease is.caches;
  each = each ∙ is.each;
  exact = λ p alone. remarks p ∙ go p alone (is_one_of mine p) refl;
}
  where
    mine : List Instance
    mine = places_of c.out lease

    later : Leases
    later = trimmed (slice_set c.out lease None)

    was : (p : Instance) → is_held later p ≡ true → (a : ℕ) × (qs : List Instance) × Has c.out a qs × In qs p × Has later a qs
    was p held = let h = holder later p held in (h.0, h.1, back_cases c.out lease h.0 h.1 h.2, h.3, h.2)

    go : (p : Instance) → IsExclusive p.key.mode → (b : Bool) → is_one_of mine p ≡ b
        → cond (is_one_of mine p) false (marked (keys_of c.rows) marks p) ≡ is_held later p
    go p alone true mark =
        ap (λ b. cond b false (marked (keys_of c.rows) marks p)) mark
        ∙ sym (false_from_ne_true (is_held later p) (λ held.
        let w = was p held in
        let inn = in_place p mine mark in
        let same = is.caches.exclusive w.0 lease w.1 mine p w.2 (places_had c.out lease p inn) (contained_in w.1 p w.3) (contained_in mine p inn) alone in
        not_given c.out lease w.1 (subst (λ a. Has later a w.1) same w.4)))
    go p alone false other =
        ap (λ b. cond b false (marked (keys_of c.rows) marks p)) other ∙ is.exact p alone
        ∙ both_ways (is_held c.out p) (is_held later p)
        (λ held. let h = holder c.out p held in
        held_by later h.0 h.1 p (trimmed_still (slice_set c.out lease None) h.0 h.1 (set_other c.out lease h.0 None h.1
        (λ same. true≢false (sym (in_any p mine (subst (λ ps. In ps p)
        (sym (of_number c.out lease h.1 (subst (λ a. Has c.out a h.1) same h.2))) h.3)) ∙ other)) h.2)) h.3)
        (λ held. let w = was p held in held_by c.out w.0 w.1 p w.2 w.3)
