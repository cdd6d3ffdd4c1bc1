-- The store that rows represent: what it has at an instance, and what a write of rows puts into it.
use Rattle.std.proofs.Common.{◌≡◌, ◌≢◌, ℕ, zero, suc, ◌+◌, ◌<◌, ◌≤◌, Bool, true, false, List, [], ◌∷◌, ◌++◌, length, Option, Some, None}
use Rattle.std.proofs.Common.{unwrap_or, ◌⊎◌, inl, inr, refl, sym, ap, ◌∙◌, cond, arith}
use Rattle.std.specs.Prelude.{slice_get, slice_set, is_some, nat_lt}
use Rattle.std.specs.Map.{lookup}
use Rattle.std.specs.FinMap as finite
use Rattle.std.proofs.lemmas.Bool.{ltb-true, ltb-false}
use Rattle.llb_cache.specs.declared.key.Key.{Key}
use Rattle.llb_cache.specs.Key.{same_key}
use Rattle.llb_cache.specs.KeyEquality.{same_keys, key_itself}
use Rattle.llb_cache.specs.Caches as cache
use Rattle.llb_cache.specs.Caches.{Row, trees_of, tree_at, made}
use Rattle.llb_cache.proofs.TreesOfKeys.{same_trees, other_trees}
use Rattle.llb_tree.specs.Tree.{TreeMap}
use Rattle.llb_model.specs.Caches.{Instance, place, place_cmp, Store, content, put}
use Rattle.llb_model.specs.WholeRunLaws.{IsDense}
use Rattle.llb_model.specs.TwoCacheModels.{put_from, store_from, store_of}
use Rattle.llb_model.proofs.Lists.{get_set_same, get_set_other, get_within, get_past}
use Rattle.llb_model.proofs.StoreWrites.{content_same, content_other, same_store, place_or}

number_apart : (k l : Key) (m n : ℕ) → m ≢ n → place k m ≢ place l n
number_apart k l m n apart e = apart (ap (λ (p : Instance). p.number) e)

key_apart : (k l : Key) (m n : ℕ) → k ≢ l → place k m ≢ place l n
key_apart k l m n apart e = apart (ap (λ (p : Instance). p.key) e)

-- ---- the trees of one key

-- the instances of another key, or below the first number, stay as they are
other_key : (s : Store) (k l : Key) (n m : ℕ) (ts : List TreeMap) → l ≢ k → content (put_from s k n ts) (place l m) ≡ content s (place l m)
other_key s k l n m [] apart = refl
other_key s k l n m (t ∷ ts) apart = content_other (put_from s k (n + 1) ts) (place k n) t (place l m) (key_apart l k m n apart)
    ∙ other_key s k l (n + 1) m ts apart

-- where nothing of the key was past the trees before
at_number : (s : Store) (k : Key) (n i : ℕ) (ts : List TreeMap) → ((j : ℕ) → slice_get ts j ≡ None → content s (place k (n + j)) ≡ None)
    → content (put_from s k n ts) (place k (n + i)) ≡ slice_get ts i
at_number s k n i [] none = none i refl
at_number s k n zero (t ∷ ts) none =
    ap (λ m. content (put_from s k n (t ∷ ts)) (place k m)) (nothing n) ∙ content_same (put_from s k (n + 1) ts) (place k n) t
  where
    nothing : (n : ℕ) → n + 0 ≡ n
    nothing n = omega arith
at_number s k n (suc i) (t ∷ ts) none =
    content_other (put_from s k (n + 1) ts) (place k n) t (place k (n + suc i)) (number_apart k k (n + suc i) n (λ e. absurd (omega (arith, e))))
    ∙ ap (λ m. content (put_from s k (n + 1) ts) (place k m)) (one n i)
    ∙ at_number s k (n + 1) i ts (λ j past. ap (λ m. content s (place k m)) (sym (one n j)) ∙ none (suc j) past)
  where
    one : (n i : ℕ) → n + suc i ≡ n + 1 + i
    one n i = omega arith

-- ---- rows

-- whether a key is that of a row
has_row : Key → List Row → Bool
has_row k rows = is_some (lookup (same_key k) rows)

shown : (all rows : List Row) (k : Key) (n : ℕ) → content (store_from all rows) (place k n) ≡ cond (has_row k rows) (slice_get (trees_of all k) n) None
unfolding has_row content
shown all [] k n = finite.get-empty place_cmp (place k n)
shown all (r ∷ rows) k n = go (same_key k r.0) refl (λ m. shown all rows k m)
  where
    none_past : (b : Bool) (m : ℕ) → slice_get (trees_of all k) m ≡ None → cond b (slice_get (trees_of all k) m) None ≡ None
    none_past true m past = past
    none_past false m past = refl

    zero_plus : (m : ℕ) → m ≡ 0 + m
    zero_plus m = omega arith

    go : (b : Bool) → same_key k r.0 ≡ b → ((m : ℕ) → content (store_from all rows) (place k m) ≡ cond (has_row k rows) (slice_get (trees_of all k) m) None)
        → content (put_from (store_from all rows) r.0 0 (trees_of all r.0)) (place k n)
        ≡ cond (is_some (cond b (Some r.1) (lookup (same_key k) rows))) (slice_get (trees_of all k) n) None
    go true is rest =
        let same : k ≡ r.0 = same_keys k r.0 is in
        ap (λ l. content (put_from (store_from all rows) l 0 (trees_of all l)) (place k n)) (sym same)
        ∙ ap (λ m. content (put_from (store_from all rows) k 0 (trees_of all k)) (place k m)) (zero_plus n)
        ∙ at_number (store_from all rows) k 0 n (trees_of all k)
        (λ j past. ap (λ m. content (store_from all rows) (place k m)) (sym (zero_plus j)) ∙ rest j ∙ none_past (has_row k rows) j past)
    go false is rest =
        other_key (store_from all rows) r.0 k 0 n (trees_of all r.0) (λ e. let both : true ≡ false = sym (key_itself k) ∙ ap (same_key k) e ∙ is in cc) ∙ rest n

-- the store that rows represent has at each place the instance of that number, and nothing where no row has the key
pub shows_instances : (rows : List Row) (p : Instance) → content (store_of rows) p ≡ tree_at rows p
unfolding store_of has_row
shows_instances rows p = shown rows rows p.key p.number ∙ go (lookup (same_key p.key) rows)
  where
    go : (o : Option (List TreeMap)) → cond (is_some o) (slice_get (unwrap_or o []) p.number) None ≡ slice_get (unwrap_or o []) p.number
    go None = refl
    go (Some ts) = refl

-- ---- writes

-- one instance is written or comes next, and the rest stays
record IsEdit (rows new : List Row) (p : Instance) (t : TreeMap) : Type 0 where
  others : (k : Key) → k ≢ p.key → trees_of new k ≡ trees_of rows k
  here : slice_get (trees_of new p.key) p.number ≡ Some t
  rest : (n : ℕ) → n ≢ p.number → slice_get (trees_of new p.key) n ≡ slice_get (trees_of rows p.key) n

-- such an edit of rows puts one tree into their store
edit_is_put : (rows new : List Row) (p : Instance) (t : TreeMap) → IsEdit rows new p t → store_of new ≡ put (store_of rows) p t
edit_is_put rows new p t e = same_store (store_of new) (put (store_of rows) p t) (λ q. shows_instances new q ∙ each q)
  where
    key_or : (k l : Key) → (k ≡ l) ⊎ (k ≢ l)
    key_or k l = go (same_key k l) refl
      where
        go : (b : Bool) → same_key k l ≡ b → (k ≡ l) ⊎ (k ≢ l)
        go true is = inl (same_keys k l is)
        go false is = inr (λ e. let both : true ≡ false = sym (ap (same_key k) (sym e) ∙ key_itself k) ∙ is in cc)

    other : (q : Instance) → q ≢ p → tree_at new q ≡ tree_at rows q
    other q apart = elim (key_or q.key p.key) [
      | inl h ↦
          ap (λ k. slice_get (trees_of new k) q.number) h
          ∙ e.rest q.number (λ n. apart (λ i. record { key = h i; number = n i }))
          ∙ ap (λ k. slice_get (trees_of rows k) q.number) (sym h)
      | inr h ↦ ap (λ ts. slice_get ts q.number) (e.others q.key h)
    ]

    each : (q : Instance) → tree_at new q ≡ content (put (store_of rows) p t) q
    each q = elim (place_or q p) [
      | inl h ↦ ap (tree_at new) h ∙ e.here ∙ sym (content_same (store_of rows) p t) ∙ ap (content (put (store_of rows) p t)) (sym h)
      | inr h ↦ other q h ∙ sym (shows_instances rows q) ∙ sym (content_other (store_of rows) p t q h)
    ]

-- keys that are not the same are told apart by the test of keys
pub apart_keys : (k l : Key) → k ≢ l → same_key k l ≡ false
apart_keys k l apart = go (same_key k l) refl
  where
    go : (b : Bool) → same_key k l ≡ b → b ≡ false
    go true is = absurd (apart (same_keys k l is))
    go false is = refl

-- a write of an instance that is there
pub put_stands : (rows : List Row) (p : Instance) (t : TreeMap) → p.number < length (trees_of rows p.key) → store_of (cache.put rows p t)
    ≡ put (store_of rows) p t
put_stands rows p t within =
    let own = same_trees rows p.key (slice_set (trees_of rows p.key) p.number t) in
    let old = get_within (trees_of rows p.key) p.number within in
    edit_is_put rows (cache.put rows p t) p t (record {
      others = λ k apart. other_trees rows p.key k (slice_set (trees_of rows p.key) p.number t) (apart_keys k p.key apart);
      here = ap (λ ts. slice_get ts p.number) own ∙ get_set_same (trees_of rows p.key) p.number t old.0 old.1;
      rest = λ n apart. ap (λ ts. slice_get ts n) own ∙ get_set_other (trees_of rows p.key) p.number t n apart;
    })

-- an instance that is there, or comes next
pub made_stands : (rows : List Row) (p : Instance) (t : TreeMap) → p.number ≤ length (trees_of rows p.key)
    → store_of (made rows p t) ≡ put (store_of rows) p (unwrap_or (content (store_of rows) p) t)
made_stands rows p t reached = go (nat_lt p.number (length (trees_of rows p.key))) refl
  where
    append_here : (ts : List TreeMap) (n : ℕ) → n ≤ length ts → length ts ≤ n → slice_get (ts ++ t ∷ []) n ≡ Some t
    append_here [] zero low high = refl
    append_here [] (suc n) low high = absurd (omega (arith, low))
    append_here (u ∷ ts) zero low high = absurd (omega (arith, high))
    append_here (u ∷ ts) (suc n) low high = append_here ts n (omega (arith, low)) (omega (arith, high))

    append_other : (ts : List TreeMap) (n m : ℕ) → n ≤ length ts → length ts ≤ n → m ≢ n → slice_get (ts ++ t ∷ []) m ≡ slice_get ts m
    append_other [] n zero low high apart = absurd (apart (omega (arith, low)))
    append_other [] n (suc m) low high apart = refl
    append_other (u ∷ ts) n zero low high apart = refl
    append_other (u ∷ ts) zero (suc m) low high apart = absurd (omega (arith, high))
    append_other (u ∷ ts) (suc n) (suc m) low high apart = append_other ts n m (omega (arith, low)) (omega (arith, high)) (λ e. apart (ap suc e))

    go : (b : Bool) → nat_lt p.number (length (trees_of rows p.key)) ≡ b
        → store_of (cond b rows (cache.with_trees rows p.key (trees_of rows p.key ++ t ∷ []))) ≡ put (store_of rows) p (unwrap_or (content (store_of rows) p) t)
    go true is =
        let old = get_within (trees_of rows p.key) p.number (ltb-true p.number (length (trees_of rows p.key)) is) in
        let stays : unwrap_or (content (store_of rows) p) t ≡ old.0 = ap (λ o. unwrap_or o t) (shows_instances rows p ∙ old.1) in
        edit_is_put rows rows p old.0 (record { others = λ k apart. refl; here = old.1; rest = λ n apart. refl }) ∙ ap (put (store_of rows) p) (sym stays)
    go false is =
        let past : length (trees_of rows p.key) ≤ p.number = ltb-false p.number (length (trees_of rows p.key)) is in
        let own = same_trees rows p.key (trees_of rows p.key ++ t ∷ []) in
        let new : unwrap_or (content (store_of rows) p) t ≡ t = ap (λ o. unwrap_or o t)
        (shows_instances rows p ∙ get_past (trees_of rows p.key) p.number past) in
        edit_is_put rows (cache.with_trees rows p.key (trees_of rows p.key ++ t ∷ [])) p t (record {
          others = λ k apart. other_trees rows p.key k (trees_of rows p.key ++ t ∷ []) (apart_keys k p.key apart);
          here = ap (λ ts. slice_get ts p.number) own ∙ append_here (trees_of rows p.key) p.number reached past;
          rest = λ n apart. ap (λ ts. slice_get ts n) own ∙ append_other (trees_of rows p.key) p.number n reached past apart;
        })
        ∙ ap (put (store_of rows) p) (sym new)

-- no number is left out
pub kept_dense : (rows : List Row) → IsDense (store_of rows)
kept_dense rows k n there = ap is_some (shows_instances rows (place k n))
    ∙ before (trees_of rows k) n (sym (ap is_some (shows_instances rows (place k (n + 1)))) ∙ there)
  where
    one : (n : ℕ) → n + 1 ≡ suc n
    one n = omega arith

    before : (ts : List TreeMap) (n : ℕ) → is_some (slice_get ts (n + 1)) ≡ true → is_some (slice_get ts n) ≡ true
    before [] n some = some
    before (t ∷ ts) zero some = refl
    before (t ∷ ts) (suc n) some = before ts n (ap (λ i. is_some (slice_get ts i)) (one n)
        ∙ sym (ap (λ i. is_some (slice_get (t ∷ ts) i)) (one (suc n))) ∙ some)
