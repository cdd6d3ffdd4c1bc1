-- The trees of a key after a write of some key's trees, and after instances are made.
use Rattle.std.proofs.Common.{◌≡◌, ℕ, zero, suc, ◌+◌, ◌<◌, ◌≤◌, Bool, true, false, cond, List, [], ◌∷◌, ◌++◌, length, Some, None, position}
use Rattle.std.proofs.Common.{slice_get, slice_set, unwrap_or, nat_lt, refl, sym, ap, ◌∙◌, arith, inl, inr, ◌⊎◌, length-append, le-ltb}
use Rattle.std.proofs.Common.{lt-ltb}
use Rattle.std.specs.Prelude.{if◌then◌else◌}
use Rattle.std.specs.List.{AllByRecursion}
use Rattle.std.specs.Map.{keys_of, values_of, lookup}
use Rattle.std.proofs.lemmas.Bool.{ltb-true, ltb-false}
use Rattle.std.proofs.lemmas.List.{length-set}
use Rattle.llb_tree.specs.Tree.{TreeMap}
use Rattle.llb_cache.specs.declared.key.Key.{Key}
use Rattle.llb_cache.specs.declared.lease_needs.Instance.{Instance}
use Rattle.llb_cache.specs.Key.{same_key}
use Rattle.llb_cache.specs.KeyEquality.{same_keys, key_itself}
use Rattle.llb_cache.specs.Caches.{Row, Taken, trees_of, with_trees, put, made, made_all, AreFew}
use Rattle.llb_cache.specs.FirstRowOfKey.{set_trees}
use Rattle.llb_cache.proofs.FirstRowOfKey.{first_placed, first_trees, written_first}

-- ---- a write at the position of a key

some_value : (es : List Row) (i : ℕ) (w : List TreeMap) → slice_get (values_of es) i ≡ Some w → set_trees es i w ≡ es
some_value [] i w at = refl
some_value (e ∷ es) zero w at = let same : e.1 ≡ w = ap (λ o. unwrap_or o w) at in λ j. (e.0, sym same j) ∷ es
some_value (e ∷ es) (suc i) w at = ap (λ rows. e ∷ rows) (some_value es i w at)

-- the trees at the position of a key are the key's trees
pub trees_there : (es : List Row) (k : Key) (i : ℕ) (old : List TreeMap) → position (same_key k) (keys_of es) ≡ Some i
    → slice_get (values_of es) i ≡ Some old → trees_of es k ≡ old
trees_there es k i old place at = ap (λ o. unwrap_or o []) (first_trees k es i (first_placed k es i place) ∙ at)

pub trees_written : (es : List Row) (k : Key) (i : ℕ) (w : List TreeMap) → position (same_key k) (keys_of es) ≡ Some i → set_trees es i w ≡ with_trees es k w
trees_written es k i w place = sym (written_first k es i w (first_placed k es i place))

-- appending a tree to the trees of a key makes the key's next instance
pub instance_made : (es : List Row) (p : Instance) (tree : TreeMap) (i : ℕ) (old w : List TreeMap)
    → position (same_key p.key) (keys_of es) ≡ Some i → slice_get (values_of es) i ≡ Some old
    → length old ≤ p.number → w ≡ old ++ tree ∷ [] → set_trees es i w ≡ made es p tree
instance_made es p tree i old w place at past is =
    let old_is : trees_of es p.key ≡ old = trees_there es p.key i old place at in
    let test : nat_lt p.number (length (trees_of es p.key)) ≡ false = le-ltb p.number (length (trees_of es p.key)) (omega (arith, past, ap length old_is)) in
    trees_written es p.key i w place ∙ ap (with_trees es p.key) (is ∙ ap (λ ts. ts ++ tree ∷ []) (sym old_is))
    ∙ sym (ap (λ b. cond b es (with_trees es p.key (trees_of es p.key ++ tree ∷ []))) test)

-- making an instance that exists changes nothing
pub instance_there : (es : List Row) (p : Instance) (tree : TreeMap) (i : ℕ) (old : List TreeMap)
    → position (same_key p.key) (keys_of es) ≡ Some i → slice_get (values_of es) i ≡ Some old
    → p.number < length old → set_trees es i old ≡ made es p tree
instance_there es p tree i old place at below =
    let old_is : trees_of es p.key ≡ old = trees_there es p.key i old place at in
    let test : nat_lt p.number (length (trees_of es p.key)) ≡ true = lt-ltb p.number (length (trees_of es p.key)) (omega (arith, below, ap length old_is)) in
    some_value es i old at ∙ sym (ap (λ b. cond b es (with_trees es p.key (trees_of es p.key ++ tree ∷ []))) test)

-- replacing one tree of a key puts a tree in that instance
pub tree_put : (es : List Row) (p : Instance) (tree : TreeMap) (i : ℕ) (old w : List TreeMap)
    → position (same_key p.key) (keys_of es) ≡ Some i → slice_get (values_of es) i ≡ Some old
    → w ≡ slice_set old p.number tree → set_trees es i w ≡ put es p tree
tree_put es p tree i old w place at is =
    trees_written es p.key i w place
    ∙ ap (with_trees es p.key) (is ∙ ap (λ ts. slice_set ts p.number tree) (sym (trees_there es p.key i old place at)))

-- ---- look-ups after a write

pub found_again : (rows : List Row) (k : Key) (ts : List TreeMap) → lookup (same_key k) (with_trees rows k ts) ≡ Some ts
found_again [] k ts = ap (λ b. cond b (Some ts) None) (key_itself k)
found_again (r ∷ rows) k ts = go (same_key k r.0) refl (found_again rows k ts)
  where
    go : (b : Bool) → same_key k r.0 ≡ b → lookup (same_key k) (with_trees rows k ts) ≡ Some ts
        → lookup (same_key k) (if b then (r.0, ts) ∷ rows else r ∷ with_trees rows k ts) ≡ Some ts
    go true is rest = ap (λ b. cond b (Some ts) (lookup (same_key k) rows)) is
    go false is rest = ap (λ b. cond b (Some r.1) (lookup (same_key k) (with_trees rows k ts))) is ∙ rest

pub found_before : (rows : List Row) (k l : Key) (ts : List TreeMap) → same_key l k ≡ false
    → lookup (same_key l) (with_trees rows k ts) ≡ lookup (same_key l) rows
found_before [] k l ts apart = ap (λ b. cond b (Some ts) None) apart
found_before (r ∷ rows) k l ts apart = go (same_key k r.0) refl (found_before rows k l ts apart)
  where
    go : (b : Bool) → same_key k r.0 ≡ b → lookup (same_key l) (with_trees rows k ts) ≡ lookup (same_key l) rows
        → lookup (same_key l) (if b then (r.0, ts) ∷ rows else r ∷ with_trees rows k ts) ≡ lookup (same_key l) (r ∷ rows)
    go true is rest =
        let none : same_key l r.0 ≡ false = ap (same_key l) (sym (same_keys k r.0 is)) ∙ apart in
        ap (λ b. cond b (Some ts) (lookup (same_key l) rows)) none ∙ sym (ap (λ b. cond b (Some r.1) (lookup (same_key l) rows)) none)
    go false is rest = ap (λ o. cond (same_key l r.0) (Some r.1) o) rest

pub same_trees : (rows : List Row) (k : Key) (ts : List TreeMap) → trees_of (with_trees rows k ts) k ≡ ts
same_trees rows k ts = ap (λ o. unwrap_or o []) (found_again rows k ts)

pub other_trees : (rows : List Row) (k l : Key) (ts : List TreeMap) → same_key l k ≡ false → trees_of (with_trees rows k ts) l ≡ trees_of rows l
other_trees rows k l ts apart = ap (λ o. unwrap_or o []) (found_before rows k l ts apart)

-- after a write of n trees of key k, key l has n trees if it is k, else as many as before
abbrev pub Counts : List Row → List Row → Key → ℕ → Key → Type 0
Counts rows new k n l = ((l ≡ k) × (length (trees_of new l) ≡ n)) ⊎ (length (trees_of new l) ≡ length (trees_of rows l))

pub counted : (rows : List Row) (k : Key) (ts : List TreeMap) (l : Key) → Counts rows (with_trees rows k ts) k (length ts) l
counted rows k ts l = go (same_key l k) refl
  where
    go : (b : Bool) → same_key l k ≡ b → Counts rows (with_trees rows k ts) k (length ts) l
    go true is = let same = same_keys l k is in inl (same, ap length (ap (trees_of (with_trees rows k ts)) same ∙ same_trees rows k ts))
    go false is = inr (ap length (other_trees rows k l ts is))

-- putting a tree in an instance changes no number of instances
pub put_counts : (rows : List Row) (p : Instance) (tree : TreeMap) (l : Key) → length (trees_of (put rows p tree) l) ≡ length (trees_of rows l)
put_counts rows p tree l = elim (counted rows p.key (slice_set (trees_of rows p.key) p.number tree) l) [
  | inl h ↦ h.1 ∙ length-set (trees_of rows p.key) p.number tree ∙ ap (λ k. length (trees_of rows k)) (sym h.0)
  | inr h ↦ h
]

-- ---- making instances

-- what making an instance changes of the numbers of instances
pub record Makes (rows : List Row) (p : Instance) (new : List Row) : Type 0 where
  pub grows : (k : Key) → length (trees_of rows k) ≤ length (trees_of new k)
  pub there : p.number ≤ length (trees_of rows p.key) → p.number < length (trees_of new p.key)
  pub few : AreFew rows → p.number < 65536 → AreFew new

one_more : (rows : List Row) (p : Instance) (tree : TreeMap) → length (trees_of rows p.key) ≤ p.number
    → Makes rows p (with_trees rows p.key (trees_of rows p.key ++ tree ∷ []))
one_more rows p tree past =
    let more : List TreeMap = trees_of rows p.key ++ tree ∷ [] in
    let new : List Row = with_trees rows p.key more in
    let count : length more ≡ length (trees_of rows p.key) + 1 = length-append (trees_of rows p.key) (tree ∷ []) in
    let own : length (trees_of new p.key) ≡ length more = ap length (same_trees rows p.key more) in
    record {
      grows = λ k. elim (counted rows p.key more k) [
        | inl h ↦ let same = ap (λ l. length (trees_of rows l)) h.0 in omega (arith, h.1, count, same)
        | inr h ↦ omega (arith, h)
      ];
      there = λ reached. omega (arith, reached, count, own);
      few = λ all small k. elim (counted rows p.key more k) [
        | inl h ↦ omega (arith, h.1, count, past, small)
        | inr h ↦ let before = all k in omega (arith, h, before)
      ];
    }

pub makes : (rows : List Row) (p : Instance) (tree : TreeMap) → Makes rows p (made rows p tree)
makes rows p tree = go (nat_lt p.number (length (trees_of rows p.key))) refl
  where
    go : (b : Bool) → nat_lt p.number (length (trees_of rows p.key)) ≡ b → Makes rows p (cond b rows (with_trees rows p.key (trees_of rows p.key ++ tree ∷ [])))
    go true is = record { grows = λ k. omega arith; there = λ _. ltb-true p.number (length (trees_of rows p.key)) is; few = λ h _. h }
    go false is = one_more rows p tree (ltb-false p.number (length (trees_of rows p.key)) is)

pub all_grow : (rows : List Row) (ts : List Taken) (k : Key) → length (trees_of rows k) ≤ length (trees_of (made_all rows ts) k)
all_grow rows [] k = omega arith
all_grow rows (t ∷ ts) k =
    let one = (makes rows t.0 t.1).grows k in
    let rest = all_grow (made rows t.0 t.1) ts k in
    omega (arith, one, rest)

-- an instance's number is that of one that exists, or the next one of its key
abbrev pub IsNext : List Row → Taken → Type 0
IsNext rows t = t.0.number ≤ length (trees_of rows t.0.key)

still_next : (rows : List Row) (p : Instance) (tree : TreeMap) (ts : List Taken) → AllByRecursion (IsNext rows) ts
    → AllByRecursion (IsNext (made rows p tree)) ts
still_next rows p tree [] all = tt
still_next rows p tree (t ∷ ts) all = (let h = all.0 in let more = (makes rows p tree).grows t.0.key in omega (arith, h, more), still_next rows p tree ts all.1)

pub all_there : (rows : List Row) (ts : List Taken) → AllByRecursion (IsNext rows) ts
    → AllByRecursion (λ t. t.0.number < length (trees_of (made_all rows ts) t.0.key)) ts
all_there rows [] all = tt
all_there rows (t ∷ ts) all = (
  let one = (makes rows t.0 t.1).there all.0 in let more = all_grow (made rows t.0 t.1) ts t.0.key in omega (arith, one, more),
  all_there (made rows t.0 t.1) ts (still_next rows t.0 t.1 ts all.1),
)

pub all_few : (rows : List Row) (ts : List Taken) → AreFew rows → AllByRecursion (λ t. t.0.number < 65536) ts → AreFew (made_all rows ts)
all_few rows [] few all = few
all_few rows (t ∷ ts) few all = all_few (made rows t.0 t.1) ts ((makes rows t.0 t.1).few few all.0) all.1
