-- A claim and a step in words of leases: a lease is refused for the key for which a claim is, takes the same instances, and makes the same contents.
use Rattle.std.proofs.Common.{◌≡◌, ℕ, zero, suc, ◌+◌, ◌<◌, ◌≤◌, Bool, true, false, ◌&&◌, List, [], ◌∷◌, length, map, Some, option_map}
use Rattle.std.proofs.Common.{unwrap_or, ◌⊎◌, inl, inr, refl, sym, ap, subst, ◌∙◌, cond, arith}
use Rattle.std.specs.List.{find}
use Rattle.std.proofs.lemmas.Bool.{cases_order}
use Rattle.llb_cache.specs.declared.key.Key.{Key}
use Rattle.llb_cache.specs.declared.key.Mode.{Mode}
use Rattle.llb_cache.specs.declared.key.Mode.TheVariants.{Shared, Private, Locked}
use Rattle.llb_cache.specs.declared.lease_needs.Need as cache_need
use Rattle.llb_cache.specs.Caches as cache
use Rattle.llb_cache.specs.Caches.{Row, Leases, Taken, trees_of, is_held, leases, is_locked, made, made_all, AreApart, AreThere}
use Rattle.llb_cache.proofs.PrivateInstanceNumbers.{number_free, number_next}
use Rattle.llb_cache.proofs.TreesOfKeys.{put_counts, makes}
use Rattle.llb_tree.specs.Tree.{TreeMap}
use Rattle.llb_model.specs.Caches.{Instance, place, content, put, put_all, Has, Distinct, is_in}
use Rattle.llb_model.specs.Program.{Need, key_of, base_in}
use Rattle.llb_model.specs.State.{WorkerStatus, held, above, number_for, place_for, places_for, is_locked_and_held, held_key, first_trees}
use Rattle.llb_model.specs.TwoCacheModels.{store_of, put_each, HoldsAs, asked}
use Rattle.llb_model.proofs.StoreWrites.{has_in, has_map}
use Rattle.llb_model.proofs.ClaimedInstances.{free_found, places_distinct}
use Rattle.llb_model.proofs.GaplessInstances.{in_has, below_number}
use Rattle.llb_model.proofs.TwoModelsContents.{put_stands, made_stands}
use Rattle.llb_model.proofs.UntouchedExclusiveInstances.{first_same}

same_bool : (a b : Bool) → (a ≡ true → b ≡ true) → (b ≡ true → a ≡ true) → a ≡ b
same_bool true true f g = refl
same_bool true false f g = sym (f refl)
same_bool false true f g = g refl
same_bool false false f g = refl

-- below the number that a lease takes, all are held
lease_below : (out : Leases) (k : Key) (n more m : ℕ) → n ≤ m → m < cache.first_free out k n more → is_held out (place k m) ≡ true
unfolding cache.first_free
lease_below out k n zero m low lt = absurd (omega (arith, low, lt))
lease_below out k n (suc more) m low lt = go (is_held out (place k n)) refl lt (lease_below out k (n + 1) more m)
  where
    split : (n m : ℕ) → n ≤ m → (n ≡ m) ⊎ (n + 1 ≤ m)
    split n m le = grind arith

    go : (b : Bool) → is_held out (place k n) ≡ b → m < cond b (cache.first_free out k (n + 1) more) n
        → (n + 1 ≤ m → m < cache.first_free out k (n + 1) more → is_held out (place k m) ≡ true)
        → is_held out (place k m) ≡ true
    go false is lt rest = absurd (omega (arith, low, lt))
    go true is lt rest = elim (split n m low) [
      | inl h ↦ ap (λ j. is_held out (place k j)) (sym h) ∙ is
      | inr h ↦ rest h lt
    ]

module _ (out : Leases) (workers : List WorkerStatus) (same : HoldsAs out workers) where
  held_same : (p : Instance) → is_held out p ≡ is_in (held workers) p
  held_same p = same_bool (is_held out p) (is_in (held workers) p) (λ h. has_in (held workers) p (same.running p h))
      (λ h. same.leased p (in_has (held workers) p h))

  locked_and_held_same : (k : Key) (m : Mode) → (is_locked m && is_held out (place k 0)) ≡ is_locked_and_held (held workers) k m
  locked_and_held_same k Shared = refl
  locked_and_held_same k Private = refl
  locked_and_held_same k Locked = held_same (place k 0)

  -- both are the least that is not held
  number_same : AreApart out → (k : Key) (m : Mode) → cache.number_for out k m ≡ number_for (held workers) k m
  number_same apart k Shared = refl
  number_same apart k Locked = refl
  number_same apart k Private = go (cases_order (cache.number_for out k Private) (number_for (held workers) k Private))
    where
      lower : cache.number_for out k Private < number_for (held workers) k Private → ⊥
      lower lt =
          let free : is_held out (place k (cache.number_for out k Private)) ≡ false = number_free out k Private apart refl tt in
          let there : is_held out (place k (cache.number_for out k Private)) ≡ true =
          same.leased (place k (cache.number_for out k Private)) (below_number (held workers) k Private (cache.number_for out k Private) lt) in
          cc

      higher : number_for (held workers) k Private < cache.number_for out k Private → ⊥
      higher lt =
          free_found (held workers) k 0 (above (held workers)) (omega arith)
          (same.running (place k (number_for (held workers) k Private))
          (lease_below out k 0 (leases out) (number_for (held workers) k Private) (omega arith) lt))

      go : (cache.number_for out k Private ≡ number_for (held workers) k Private)
          ⊎ ((cache.number_for out k Private < number_for (held workers) k Private) ⊎ (number_for (held workers) k Private < cache.number_for out k Private))
          → cache.number_for out k Private ≡ number_for (held workers) k Private
      go (inl h) = h
      go (inr (inl h)) = absurd (lower h)
      go (inr (inr h)) = absurd (higher h)

  place_same : AreApart out → (k : Key) → cache.place_for out k ≡ place k (number_for (held workers) k k.mode)
  place_same apart k = ap (place k) (number_same apart k k.mode)

-- a lease is refused for the same locked key as a claim: the first among the needs whose instance is held
pub refuses_alike : (out : Leases) (workers : List WorkerStatus) (inputs : List TreeMap) (needs : List Need) → HoldsAs out workers
    → option_map (λ (n : cache_need.Need). n.key) (find (cache.is_locked_and_held out) (asked inputs needs)) ≡ held_key (held workers) needs
refuses_alike out workers inputs [] same = refl
refuses_alike out workers inputs (n ∷ needs) same = go (is_locked_and_held (held workers) n.key n.key.mode)
    (locked_and_held_same out workers same n.key n.key.mode) (refuses_alike out workers inputs needs same)
  where
    go : (b : Bool) → cache.is_locked_and_held out (record { key = n.key; tree = base_in n.input inputs }) ≡ b
        → option_map (λ (n : cache_need.Need). n.key) (find (cache.is_locked_and_held out) (asked inputs needs)) ≡ held_key (held workers) needs
        → option_map (λ (n : cache_need.Need). n.key) (find (cache.is_locked_and_held out) (asked inputs (n ∷ needs)))
        ≡ cond b (Some n.key) (held_key (held workers) needs)
    go b is rest =
        ap (λ t. option_map (λ (n : cache_need.Need). n.key)
        (cond t (Some (need_with n.key (base_in n.input inputs))) (find (cache.is_locked_and_held out) (asked inputs needs)))) is ∙ by_test b rest
      where
        need_with : Key → TreeMap → cache_need.Need
        need_with k t = record { key = k; tree = t }

        by_test : (b : Bool) → option_map (λ (n : cache_need.Need). n.key) (find (cache.is_locked_and_held out) (asked inputs needs))
            ≡ held_key (held workers) needs
            → option_map (λ (n : cache_need.Need). n.key) (cond b (Some (need_with n.key (base_in n.input inputs)))
            (find (cache.is_locked_and_held out) (asked inputs needs))) ≡ cond b (Some n.key) (held_key (held workers) needs)
        by_test true rest = refl
        by_test false rest = rest

-- a lease takes the instances that a claim takes, by one rule of the least number that nobody has
pub takes_alike : (out : Leases) (workers : List WorkerStatus) (inputs : List TreeMap) (needs : List Need) → HoldsAs out workers → AreApart out
    → map (λ (t : Taken). t.0) (cache.taken out (asked inputs needs)) ≡ places_for (held workers) needs
takes_alike out workers inputs [] same apart = refl
takes_alike out workers inputs (n ∷ needs) same apart =
    ap (λ p. p ∷ map (λ (t : Taken). t.0) (cache.taken out (asked inputs needs))) (place_same out workers same apart n.key)
    ∙ ap (λ ps. place_for (held workers) n ∷ ps) (takes_alike out workers inputs needs same apart)

-- ---- contents

-- places, each with the tree that it begins with
abbrev paired : List TreeMap → List Instance → List Need → List Taken
paired inputs [] needs = []
paired inputs (p ∷ ps) [] = []
paired inputs (p ∷ ps) (n ∷ needs) = (p, base_in n.input inputs) ∷ paired inputs ps needs

taken_paired : (out : Leases) (workers : List WorkerStatus) (inputs : List TreeMap) (needs : List Need) → HoldsAs out workers → AreApart out
    → cache.taken out (asked inputs needs) ≡ paired inputs (places_for (held workers) needs) needs
taken_paired out workers inputs [] same apart = refl
taken_paired out workers inputs (n ∷ needs) same apart =
    ap (λ (p : Instance). (p, base_in n.input inputs) ∷ cache.taken out (asked inputs needs)) (place_same out workers same apart n.key)
    ∙ ap (λ (ts : List Taken). (place_for (held workers) n, base_in n.input inputs) ∷ ts) (taken_paired out workers inputs needs same apart)

all_made : (rows : List Row) (inputs : List TreeMap) (ps : List Instance) (needs : List Need) → Distinct ps
    → ((p : Instance) → Has ps p → p.number ≤ length (trees_of rows p.key)) → length ps ≡ length needs
    → store_of (made_all rows (paired inputs ps needs)) ≡ put_all (store_of rows) ps (first_trees (store_of rows) inputs ps needs)
all_made rows inputs [] needs apart reached count = refl
all_made rows inputs (p ∷ ps) [] apart reached count = absurd (omega (arith, count))
all_made rows inputs (p ∷ ps) (n ∷ needs) apart reached count =
    let t = base_in n.input inputs in
    let u = unwrap_or (content (store_of rows) p) t in
    let next = made rows p t in
    let one : store_of next ≡ put (store_of rows) p u = made_stands rows p t (reached p (inl refl)) in
    all_made next inputs ps needs apart.1 (λ q h. let grows = (makes rows p t).grows q.key in let low =
    reached q (inr h) in omega (arith, low, grows)) (omega (arith, count))
    ∙ ap (λ s. put_all s ps (first_trees s inputs ps needs)) one
    ∙ ap (put_all (put (store_of rows) p u) ps) (first_same (store_of rows) p u inputs ps needs apart.0)

-- the instances that a lease makes, and the trees that they begin with, are those of a claim
pub makes_alike : (rows : List Row) (out : Leases) (workers : List WorkerStatus) (inputs : List TreeMap) (needs : List Need) → HoldsAs out workers
    → AreApart out → AreThere rows out → Distinct (map key_of needs)
    → store_of (made_all rows (cache.taken out (asked inputs needs)))
    ≡ put_all (store_of rows) (places_for (held workers) needs) (first_trees (store_of rows) inputs (places_for (held workers) needs) needs)
makes_alike rows out workers inputs needs same apart there differ =
    ap (λ ts. store_of (made_all rows ts)) (taken_paired out workers inputs needs same apart)
    ∙ all_made rows inputs (places_for (held workers) needs) needs (places_distinct (held workers) needs differ) reached (count needs)
  where
    reached : (p : Instance) → Has (places_for (held workers) needs) p → p.number ≤ length (trees_of rows p.key)
    reached p h =
        let m = has_map (place_for (held workers)) needs p h in
        let low = number_next rows out m.0.key m.0.key.mode there in
        let number = number_same out workers same apart m.0.key m.0.key.mode in
        subst (λ (q : Instance). q.number ≤ length (trees_of rows q.key)) (sym m.2) (omega (arith, low, number))

    count : (needs : List Need) → length (places_for (held workers) needs) ≡ length needs
    count [] = refl
    count (n ∷ needs) = ap suc (count needs)

-- trees that are written one by one to instances of rows are written to the same places of the store
pub writes_alike : (rows : List Row) (ps : List Instance) (ts : List TreeMap) → ((p : Instance) → Has ps p → p.number < length (trees_of rows p.key))
    → store_of (put_each rows ps ts) ≡ put_all (store_of rows) ps ts
writes_alike rows [] ts within = refl
writes_alike rows (p ∷ ps) [] within = refl
writes_alike rows (p ∷ ps) (t ∷ ts) within =
    writes_alike (cache.put rows p t) ps ts (λ q h. let same = put_counts rows p t q.key in let low = within q (inr h) in omega (arith, low, same))
    ∙ ap (λ s. put_all s ps ts) (put_stands rows p t (within p (inl refl)))
