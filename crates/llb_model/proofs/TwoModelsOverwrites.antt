-- Instances that are written again: the last write is what counts, and a write of what is there changes nothing.
use Rattle.std.proofs.Common.{◌≡◌, ◌≢◌, ◌<◌, Bool, true, false, List, [], ◌∷◌, length, Some, unwrap_or, inl, inr, refl}
use Rattle.std.proofs.Common.{sym, ap, ◌∙◌, cond, arith}
use Rattle.std.specs.Prelude.{slice_set}
use Rattle.std.specs.Map.{lookup}
use Rattle.llb_cache.specs.declared.key.Key.{Key}
use Rattle.llb_cache.specs.Key.{same_key}
use Rattle.llb_cache.specs.KeyEquality.{same_keys, key_itself}
use Rattle.llb_cache.specs.Caches as cache
use Rattle.llb_cache.specs.Caches.{Row, trees_of, with_trees}
use Rattle.llb_cache.proofs.TreesOfKeys.{same_trees, other_trees, put_counts}
use Rattle.llb_tree.specs.Tree.{TreeMap}
use Rattle.llb_model.specs.Caches.{Instance, content, Has, Hold}
use Rattle.llb_model.specs.TwoCacheModels.{store_of, put_each}
use Rattle.llb_model.proofs.Landing.{set_set}
use Rattle.llb_model.proofs.TwoModelsContents.{shows_instances, apart_keys}
use Rattle.llb_model.proofs.TwoModelsRowWrites.{same_rows, set_got}

-- no two places have one key
abbrev pub AreKeysApart : List Instance → Type 0
AreKeysApart [] = Unit {0}
AreKeysApart (p ∷ ps) = ((q : Instance) → Has ps q → p.key ≢ q.key) × AreKeysApart ps

-- the rows have a tree for each of these instances
abbrev pub AreWithin : List Row → List Instance → Type 0
AreWithin rows ps = (p : Instance) → Has ps p → p.number < length (trees_of rows p.key)

-- ---- the trees of keys

trees_twice : (rows : List Row) (k : Key) (ts us : List TreeMap) → with_trees (with_trees rows k ts) k us ≡ with_trees rows k us
trees_twice [] k ts us = ap (λ b. cond b ((k, us) ∷ []) ((k, ts) ∷ (k, us) ∷ [])) (key_itself k)
trees_twice (r ∷ rows) k ts us = go (same_key k r.0) refl (trees_twice rows k ts us)
  where
    go : (b : Bool) → same_key k r.0 ≡ b → with_trees (with_trees rows k ts) k us ≡ with_trees rows k us
        → with_trees (cond b ((r.0, ts) ∷ rows) (r ∷ with_trees rows k ts)) k us ≡ cond b ((r.0, us) ∷ rows) (r ∷ with_trees rows k us)
    go true is rest = ap (λ b. cond b ((r.0, us) ∷ rows) ((r.0, ts) ∷ with_trees rows k us)) is
    go false is rest = ap (λ b. cond b ((r.0, us) ∷ with_trees rows k ts) (r ∷ with_trees (with_trees rows k ts) k us)) is ∙ ap (λ rs. r ∷ rs) rest

-- of two keys, the first of which is there
trees_swap : (rows : List Row) (k l : Key) (ts us : List TreeMap) → k ≢ l → 0 < length (trees_of rows k)
    → with_trees (with_trees rows k ts) l us ≡ with_trees (with_trees rows l us) k ts
trees_swap [] k l ts us apart there = absurd (omega (arith, there))
trees_swap (r ∷ rows) k l ts us apart there = go (same_key k r.0) (same_key l r.0) refl refl there (trees_swap rows k l ts us apart)
  where
    go : (a b : Bool) → same_key k r.0 ≡ a → same_key l r.0 ≡ b → 0 < length (unwrap_or (cond a (Some r.1) (lookup (same_key k) rows)) [])
        → (0 < length (trees_of rows k) → with_trees (with_trees rows k ts) l us ≡ with_trees (with_trees rows l us) k ts)
        → with_trees (cond a ((r.0, ts) ∷ rows) (r ∷ with_trees rows k ts)) l us ≡ with_trees (cond b ((r.0, us) ∷ rows) (r ∷ with_trees rows l us)) k ts
    go true true here other there rest = absurd (apart (same_keys k r.0 here ∙ sym (same_keys l r.0 other)))
    go true false here other there rest =
        ap (λ b. cond b ((r.0, us) ∷ rows) ((r.0, ts) ∷ with_trees rows l us)) other
        ∙ sym (ap (λ b. cond b ((r.0, ts) ∷ with_trees rows l us) (r ∷ with_trees (with_trees rows l us) k ts)) here)
    go false true here other there rest =
        ap (λ b. cond b ((r.0, us) ∷ with_trees rows k ts) (r ∷ with_trees (with_trees rows k ts) l us)) other
        ∙ sym (ap (λ b. cond b ((r.0, ts) ∷ rows) ((r.0, us) ∷ with_trees rows k ts)) here)
    go false false here other there rest =
        ap (λ b. cond b ((r.0, us) ∷ with_trees rows k ts) (r ∷ with_trees (with_trees rows k ts) l us)) other
        ∙ ap (λ rs. r ∷ rs) (rest there)
        ∙ sym (ap (λ b. cond b ((r.0, ts) ∷ with_trees rows l us) (r ∷ with_trees (with_trees rows l us) k ts)) here)

-- ---- one write

put_again : (rows : List Row) (p : Instance) (t u : TreeMap) → cache.put (cache.put rows p t) p u ≡ cache.put rows p u
put_again rows p t u =
    let old = trees_of rows p.key in
    ap (λ ts. with_trees (cache.put rows p t) p.key (slice_set ts p.number u)) (same_trees rows p.key (slice_set old p.number t))
    ∙ trees_twice rows p.key (slice_set old p.number t) (slice_set (slice_set old p.number t) p.number u)
    ∙ ap (with_trees rows p.key) (set_set old p.number t u)

put_swap : (rows : List Row) (p q : Instance) (t u : TreeMap) → p.key ≢ q.key → 0 < length (trees_of rows p.key)
    → cache.put (cache.put rows p t) q u ≡ cache.put (cache.put rows q u) p t
put_swap rows p q t u apart there =
    let ts = slice_set (trees_of rows p.key) p.number t in
    let us = slice_set (trees_of rows q.key) q.number u in
    ap (λ old. with_trees (with_trees rows p.key ts) q.key (slice_set old q.number u))
    (other_trees rows p.key q.key ts (apart_keys q.key p.key (λ e. apart (sym e))))
    ∙ trees_swap rows p.key q.key ts us apart there
    ∙ sym (ap (λ old. with_trees (with_trees rows q.key us) p.key (slice_set old p.number t)) (other_trees rows q.key p.key us (apart_keys p.key q.key apart)))

put_there : (rows : List Row) (p : Instance) (t : TreeMap) → p.number < length (trees_of rows p.key) → content (store_of rows) p ≡ Some t
    → cache.put rows p t ≡ rows
put_there rows p t within holds =
    ap (with_trees rows p.key) (set_got (trees_of rows p.key) p.number t (sym (shows_instances rows p) ∙ holds)) ∙ same_rows rows p.key (omega (arith, within))

-- ---- several

pub each_counts : (rows : List Row) (ps : List Instance) (ts : List TreeMap) (k : Key) → length (trees_of (put_each rows ps ts) k) ≡ length (trees_of rows k)
each_counts rows [] ts k = refl
each_counts rows (p ∷ ps) [] k = refl
each_counts rows (p ∷ ps) (t ∷ ts) k = each_counts (cache.put rows p t) ps ts k ∙ put_counts rows p t k

-- writes leave as many instances of each key, so that what was there still is
pub each_within : (rows : List Row) (ps : List Instance) (ts : List TreeMap) (qs : List Instance) → AreWithin rows qs → AreWithin (put_each rows ps ts) qs
each_within rows ps ts qs within p has = let low = within p has in let same = each_counts rows ps ts p.key in omega (arith, low, same)

put_within : (rows : List Row) (p : Instance) (t : TreeMap) (qs : List Instance) → AreWithin rows qs → AreWithin (cache.put rows p t) qs
put_within rows p t qs within q has = let low = within q has in let same = put_counts rows p t q.key in omega (arith, low, same)

each_put : (rows : List Row) (p : Instance) (t : TreeMap) (ps : List Instance) (ts : List TreeMap) → ((q : Instance) → Has ps q → p.key ≢ q.key)
    → 0 < length (trees_of rows p.key)
    → put_each (cache.put rows p t) ps ts ≡ cache.put (put_each rows ps ts) p t
each_put rows p t [] ts apart there = refl
each_put rows p t (q ∷ ps) [] apart there = refl
each_put rows p t (q ∷ ps) (u ∷ ts) apart there =
    ap (λ r. put_each r ps ts) (put_swap rows p q t u (apart q (inl refl)) there)
    ∙ each_put (cache.put rows q u) p t ps ts (λ r has. apart r (inr has)) (let same = put_counts rows q u p.key in omega (arith, there, same))

-- of two writes at the same instances, with keys that differ, the last is what counts
pub each_again : (rows : List Row) (ps : List Instance) (ts us : List TreeMap) → AreKeysApart ps → AreWithin rows ps → length ts ≡ length ps
    → length us ≡ length ps
    → put_each (put_each rows ps ts) ps us ≡ put_each rows ps us
each_again rows [] ts us apart within many count = refl
each_again rows (p ∷ ps) [] us apart within many count = absurd (omega (arith, many))
each_again rows (p ∷ ps) (t ∷ ts) [] apart within many count = absurd (omega (arith, count))
each_again rows (p ∷ ps) (t ∷ ts) (u ∷ us) apart within many count =
    let here = within p (inl refl) in
    let still = put_counts rows p t p.key in
    ap (λ r. put_each r ps us) (sym (each_put (cache.put rows p t) p u ps ts apart.0 (omega (arith, here, still)))
    ∙ ap (λ r. put_each r ps ts) (put_again rows p t u))
    ∙ each_again (cache.put rows p u) ps ts us apart.1 (put_within rows p u ps (λ q has. within q (inr has))) (omega (arith, many)) (omega (arith, count))

-- a write of the trees that are at instances changes nothing
pub each_there : (rows : List Row) (ps : List Instance) (ts : List TreeMap) → AreWithin rows ps → Hold (store_of rows) ps ts → put_each rows ps ts ≡ rows
each_there rows [] [] within hold = refl
each_there rows [] (t ∷ ts) within hold = absurd hold
each_there rows (p ∷ ps) [] within hold = absurd hold
each_there rows (p ∷ ps) (t ∷ ts) within hold =
    ap (λ r. put_each r ps ts) (put_there rows p t (within p (inl refl)) hold.0) ∙ each_there rows ps ts (λ q has. within q (inr has)) hold.1
