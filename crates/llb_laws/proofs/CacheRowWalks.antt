-- Walks over lists, and over the rows of caches: what holds of the trees of each key with a row holds of the tree of each cache instance.
use Rattle.std.proofs.Common.{◌≡◌, ℕ, zero, suc, ◌+◌, ◌≤◌, Bool, true, false, cond, List, [], ◌∷◌, length, take, Option, Some, None, refl, sym, subst, ◌∙◌}
use Rattle.std.proofs.Common.{arith, add-one}
use Rattle.std.specs.Prelude.{slice_get, unwrap_or}
use Rattle.std.specs.List.{All}
use Rattle.std.specs.Map.{keys_of, lookup}
use Rattle.std.proofs.lemmas.List.Elements.{All-nil, All-cons, All-head, All-tail}
use Rattle.llb_cache.specs.Caches.{Row, trees_of}
use Rattle.llb_cache.specs.Key.{same_key}
use Rattle.llb_cache.specs.KeyEquality.{same_keys}
use Rattle.llb_cache.specs.declared.key.Key.{Key}
use Rattle.llb_tree.specs.Tree.{TreeMap}
use Rattle.llb_model.specs.TwoCacheModels.{store_of}
use Rattle.llb_model.specs.Caches.{Instance, content}
use Rattle.llb_model.proofs.TwoModelsContents.{shows_instances}
use Rattle.llb_model.proofs.ConstructorEqualities.{none_some}
use Rattle.llb_laws.proofs.AlikeOutcomes.{got_of_all}

-- ---- a walk over a list

-- what holds of the first n items, and of the next one
pub all_next : {A : Type 0} (P : A → Type 0) (xs : List A) (n : ℕ) → All P (take n xs) → ((x : A) → slice_get xs n ≡ Some x → P x) → All P (take (n + 1) xs)
all_next {A = A} P xs n all next = subst (λ k. All P (take k xs)) (sym (add-one n)) (one_more xs n all next)
  where
    one_more : (ys : List A) (k : ℕ) → All P (take k ys) → ((x : A) → slice_get ys k ≡ Some x → P x) → All P (take (suc k) ys)
    one_more [] k each here = All-nil P
    one_more (y ∷ ys) zero each here = All-cons P y [] (here y refl) (All-nil P)
    one_more (y ∷ ys) (suc k) each here =
        All-cons P y (take (suc k) ys) (All-head P y (take k ys) each) (one_more ys k (All-tail P y (take k ys) each) here)

-- what holds of the first n items, which are all
pub all_walked : {A : Type 0} (P : A → Type 0) (xs : List A) (n : ℕ) → length xs ≤ n → All P (take n xs) → All P xs
all_walked P [] n all each = All-nil P
all_walked P (x ∷ xs) zero all each = absurd (omega (arith, all))
all_walked P (x ∷ xs) (suc n) all each =
    All-cons P x xs (All-head P x (take n xs) each) (all_walked P xs n (omega (arith, all)) (All-tail P x (take n xs) each))

-- ---- caches

-- what holds of each key holds of one that is found
key_found : (P : Key → Type 0) (k : Key) (rows : List Row) → All P (keys_of rows) → (ts : List TreeMap) → lookup (same_key k) rows ≡ Some ts → P k
key_found P k [] all ts is = absurd (none_some is)
key_found P k (r ∷ rows) all ts is = by_key (same_key k r.0) refl is (key_found P k rows (All-tail P r.0 (keys_of rows) all) ts)
  where
    by_key : (b : Bool) → same_key k r.0 ≡ b → cond b (Some r.1) (lookup (same_key k) rows) ≡ Some ts → (lookup (same_key k) rows ≡ Some ts → P k) → P k
    by_key true same there rest = subst P (sym (same_keys k r.0 same)) (All-head P r.0 (keys_of rows) all)
    by_key false same there rest = rest there

pub each_instance : (P : TreeMap → Type 0) (rows : List Row) → All (λ (key : Key). All P (trees_of rows key)) (keys_of rows) → (p : Instance) (t : TreeMap)
    → content (store_of rows) p ≡ Some t → P t
each_instance P rows all p t is = by_found (lookup (same_key p.key) rows) refl (sym (shows_instances rows p) ∙ is)
  where
    by_found : (o : Option (List TreeMap)) → lookup (same_key p.key) rows ≡ o → slice_get (unwrap_or o []) p.number ≡ Some t → P t
    by_found None found there = absurd (none_some there)
    by_found (Some ts) found there =
        let each : All P (trees_of rows p.key) = key_found (λ (key : Key). All P (trees_of rows key)) p.key rows all ts found in
        got_of_all P ts (subst (λ (o : Option (List TreeMap)). All P (unwrap_or o [])) found each) p.number t there
