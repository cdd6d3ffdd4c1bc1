-- What holds of caches holds after each call.
use Rattle.std.proofs.Common.{◌≡◌, ◌≢◌, ℕ, ◌<◌, ◌≤◌, Bool, true, false, cond, List, [], ◌∷◌, length, map, get_or, Some, None, refl, sym, ap}
use Rattle.std.proofs.Common.{◌∙◌, subst, arith, inl, inr, true≢false, find, slice_set}
use Rattle.std.specs.List.{All, AllPairs, AllByRecursion, Contains}
use Rattle.std.proofs.lemmas.List.Elements.{All-from_recursion}
use Rattle.llb_tree.specs.Tree.{TreeMap}
use Rattle.llb_cache.specs.declared.key.Key.{Key}
use Rattle.llb_cache.specs.declared.lease_needs.Need.{Need}
use Rattle.llb_cache.specs.declared.lease_needs.Instance.{Instance}
use Rattle.llb_cache.specs.Caches.{CachesValue, Row, Leases, Taken, place_for, taken, made_all, is_locked_and_held, is_held, leases, granted}
use Rattle.llb_cache.specs.Caches.{free_lease, with_lease, put, given_back, trimmed, trees_of, IsCaches, IsExclusive, Has, AreExclusive, AreApart, AreThere}
use Rattle.llb_cache.proofs.ListMembership.{In, in_contained, in_map, pairs_map}
use Rattle.llb_cache.proofs.InstanceHolders.{held_by, lease_cases, lease_short, back_cases, back_short, trimmed_twice, trimmed_lease, trimmed_nothing}
use Rattle.llb_cache.proofs.PrivateInstanceNumbers.{number_within, number_free, number_next}
use Rattle.llb_cache.proofs.TreesOfKeys.{IsNext, all_grow, all_there, all_few, put_counts}

-- ---- what a lease takes

none_locked_and_held : (out : Leases) (needs : List Need) → find (is_locked_and_held out) needs ≡ None → (n : Need) → In needs n → is_locked_and_held out n
    ≡ false
none_locked_and_held out [] e n h = absurd h
none_locked_and_held out (m ∷ needs) e n h = go (is_locked_and_held out m) refl e h (none_locked_and_held out needs)
  where
    go : (b : Bool) → is_locked_and_held out m ≡ b → cond b (Some m) (find (is_locked_and_held out) needs) ≡ None → In (m ∷ needs) n
        → (find (is_locked_and_held out) needs ≡ None → (n : Need) → In needs n → is_locked_and_held out n ≡ false) → is_locked_and_held out n ≡ false
    go true is e h rest = absurd cc
    go false is e (inl same) rest = ap (is_locked_and_held out) same ∙ is
    go false is e (inr later) rest = rest e n later

places : Leases → List Need → List Instance
places out needs = map (λ t. t.0) (taken out needs)

places_are : (out : Leases) (needs : List Need) → places out needs ≡ map (λ (n : Need). place_for out n.key) needs
unfolding places
places_are out [] = refl
places_are out (n ∷ needs) = ap (λ ps. place_for out n.key ∷ ps) (places_are out needs)

-- the need of an instance that is taken
need_of : (out : Leases) (needs : List Need) (p : Instance) → Contains (places out needs) p → (n : Need) × In needs n × (p ≡ place_for out n.key)
need_of out needs p h = in_map (λ (n : Need). place_for out n.key) needs p (subst (λ ps. In ps p) (places_are out needs) (in_contained (places out needs) p h))

-- no lease has what a lease takes for itself
taken_free : (out : Leases) (needs : List Need) → AreApart out → find (is_locked_and_held out) needs ≡ None → (p : Instance)
    → Contains (places out needs) p → IsExclusive p.key.mode → is_held out p ≡ false
taken_free out needs apart none p h alone =
    let n = need_of out needs p h in
    let mode = ap (λ (q : Instance). q.key.mode) n.2 in
    ap (is_held out) n.2
    ∙ number_free out n.0.key n.0.key.mode apart (none_locked_and_held out needs none n.0 n.1) (subst IsExclusive mode alone)

next_all : (rows : List Row) (out : Leases) (needs : List Need) → AreThere rows out → AllByRecursion (IsNext rows) (taken out needs)
next_all rows out [] there = tt
next_all rows out (n ∷ needs) there = (number_next rows out n.key n.key.mode there, next_all rows out needs there)

small_all : (out : Leases) (needs : List Need) → leases out < 65536 → AllByRecursion (λ (t : Taken). t.0.number < 65536) (taken out needs)
small_all out [] few = tt
small_all out (n ∷ needs) few = (let w = number_within out n.key n.key.mode in omega (arith, w, few), small_all out needs few)

first_of_each : (P : Instance → Type 0) (ts : List Taken) → AllByRecursion (λ t. P t.0) ts → AllByRecursion P (map (λ t. t.0) ts)
first_of_each P [] all = tt
first_of_each P (t ∷ ts) all = (all.0, first_of_each P ts all.1)

-- ---- a lease

module _ (out : Leases) (ps : List Instance) where
  -- what holds of the instances of a new lease, and of those of each other lease, holds of those of each
  pub each_after : (P : List Instance → Type 0) → P ps → ((a : ℕ) (qs : List Instance) → Has out a qs → P qs) → (a : ℕ) (qs : List Instance)
      → Has (with_lease out (free_lease out) ps) a qs → P qs
  each_after P mine theirs a qs at = elim (lease_cases out ps a qs at) [ inl x ↦ subst P x.1 mine | inr x ↦ theirs a qs x ]

  -- if no lease has an exclusive instance of a new one, no two leases have one instance exclusively
  pub exclusive_after : AreExclusive out → ((p : Instance) → Contains ps p → IsExclusive p.key.mode → is_held out p ≡ false)
      → AreExclusive (with_lease out (free_lease out) ps)
  exclusive_after is free a b qs rs p at bt mine theirs alone = elim (lease_cases out ps a qs at) [
    | inl x ↦ elim (lease_cases out ps b rs bt) [
      | inl y ↦ x.0 ∙ sym y.0
      | inr y ↦ absurd (clash b rs y (subst (λ l. Contains l p) (sym x.1) mine) theirs)
    ]
    | inr x ↦ elim (lease_cases out ps b rs bt) [
      | inl y ↦ absurd (clash a qs x (subst (λ l. Contains l p) (sym y.1) theirs) mine)
      | inr y ↦ is a b qs rs p x y mine theirs alone
    ]
  ]
    where
      clash : (a : ℕ) (qs : List Instance) → Has out a qs → Contains ps p → Contains qs p → ⊥
      clash a qs at new old = true≢false (sym (held_by out a qs p at (in_contained qs p old)) ∙ free p new alone)

-- what holds of caches holds after a lease is granted
pub lease_keeps : (c : CachesValue) (needs : List Need) → IsCaches c → leases c.out < 65536 → AllPairs (λ n m. n.key ≢ m.key) needs
    → find (is_locked_and_held c.out) needs ≡ None
    → IsCaches (granted c needs).1
unfolding places
lease_keeps c needs is few differ none =
    let out = c.out in
    let new : List Instance = places out needs in
    let rows : List Row = made_all c.rows (taken out needs) in
    record {
      exclusive = exclusive_after out new is.exclusive (taken_free out needs is.apart none);
      apart = each_after out new (AllPairs (λ p q. p.key ≢ q.key)) (subst (AllPairs (λ p q. p.key ≢ q.key)) (sym (places_are out needs))
          (pairs_map (λ p q. p.key ≢ q.key) (λ (n : Need). place_for out n.key) needs differ)) is.apart;
      there = each_after out new (All (λ p. p.number < length (trees_of rows p.key)))
          (All-from_recursion (λ p. p.number < length (trees_of rows p.key)) new
          (first_of_each (λ p. p.number < length (trees_of rows p.key)) (taken out needs)
          (all_there c.rows (taken out needs) (next_all c.rows out needs is.there))))
          (λ a ps at k d below. let old = is.there a ps at k d below in let more = all_grow c.rows (taken out needs) (get_or ps k d).key in
          omega (arith, old, more));
      few = all_few c.rows (taken out needs) is.few (small_all out needs few);
      short = lease_short out new is.short few;
      ends = trimmed_lease out (free_lease out) new is.ends;
    }

-- ---- the other calls

-- no cache and no lease
pub nothing_kept : IsCaches (record { rows = []; out = [] })
nothing_kept = record {
  exclusive = λ a b ps qs p at. absurd cc;
  apart = λ a ps at. absurd cc;
  there = λ a ps at. absurd cc;
  few = λ k. omega arith;
  short = omega arith;
  ends = trimmed_nothing;
}

-- with no lease more, and no instance less
fewer : (c d : CachesValue) → IsCaches c → ((a : ℕ) (ps : List Instance) → Has d.out a ps → Has c.out a ps) → length d.out ≤ length c.out
    → ((k : Key) → length (trees_of d.rows k) ≡ length (trees_of c.rows k)) → trimmed d.out ≡ d.out → IsCaches d
fewer c d is before short same ends = record {
  exclusive = λ a b ps qs p at bt mine theirs alone. is.exclusive a b ps qs p (before a ps at) (before b qs bt) mine theirs alone;
  apart = λ a ps at. is.apart a ps (before a ps at);
  there = λ a ps at k d below. let old = is.there a ps (before a ps at) k d below in let e = same (get_or ps k d).key in omega (arith, old, e);
  few = λ k. let e = same k in let old = is.few k in omega (arith, e, old);
  short = let s = is.short in omega (arith, s, short);
  ends = ends;
}

-- a tree that is written to an instance leaves all that holds of caches
pub put_keeps : (c : CachesValue) (p : Instance) (tree : TreeMap) → IsCaches c → IsCaches (record c { rows = put c.rows p tree })
put_keeps c p tree is = fewer c (record c { rows = put c.rows p tree }) is (λ a ps at. at) (omega arith) (λ k. put_counts c.rows p tree k) is.ends

-- a lease that is given back leaves all that holds of caches
pub back_keeps : (c : CachesValue) (lease : ℕ) → IsCaches c → IsCaches (given_back c lease)
back_keeps c lease is = fewer c (given_back c lease) is (λ a ps at. back_cases c.out lease a ps at) (back_short c.out lease) (λ k. refl)
    (trimmed_twice (slice_set c.out lease None))
