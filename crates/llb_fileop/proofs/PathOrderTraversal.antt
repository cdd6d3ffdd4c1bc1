-- Passing over entries in the order of their paths.
use Rattle.std.proofs.Common.{◌≡◌, ℕ, zero, suc, ◌<◌, ◌≤◌, Bool, true, false, cond, not, List, [], ◌∷◌, length, drop, Some, None}
use Rattle.std.proofs.Common.{T, refl, sym, ap, ◌∙◌, arith}
use Rattle.std.specs.Prelude.{slice_get}
use Rattle.std.specs.declared.cmp.Ordering.TheVariants.{Less}
use Rattle.std.specs.Ordering.{is_eq, eq_by_cmp}
use Rattle.std.specs.Cmp.{tied_itself}
use Rattle.std.specs.FinMap as finite
use Rattle.std.specs.FinMap.Entries.{below_all, where_key}
use Rattle.llb_tree.specs.Path.{path_cmp, is_within}
use Rattle.llb_tree.specs.PathOrder.{path_cmp-IsTotalOrder, same_path}
use Rattle.llb_tree.specs.Tree.{Entry}
use Rattle.llb_tree.specs.Walks.{past}
use Rattle.llb_tree.proofs.EntryOrder.{is_less, and_first, and_second}

abbrev pub Pair : Type 0
Pair = List (List ℕ) × Entry

-- a path ties with itself in the order of paths
pub ties_itself : (p : List (List ℕ)) → eq_by_cmp path_cmp p p ≡ true
ties_itself p = ap is_eq (tied_itself path_cmp-IsTotalOrder p)

-- each entry of a sorted list is the one that is found at its path
pub found_at : (es : List Pair) (i : ℕ) (k : List (List ℕ)) (e : Entry) → T (finite.is_sorted path_cmp es)
    → slice_get es i ≡ Some (k, e) → finite.find path_cmp k es ≡ Some e
found_at [] i k e sorted is = absurd cc
found_at (f ∷ es) zero k e sorted is =
    let same : f ≡ (k, e) = cc in
    let key : k ≡ f.0 = ap (λ x. x.0) (sym same) in
    let value : f.1 ≡ e = ap (λ x. x.1) same in
    ap (λ b. cond b (Some f.1) (finite.find path_cmp k es)) (ap (eq_by_cmp path_cmp k) (sym key) ∙ ties_itself k) ∙ ap Some value
found_at (f ∷ es) (suc i) k e sorted is = by_tie (eq_by_cmp path_cmp k f.0) refl (found_at es i k e (and_second _ _ sorted) is)
  where
    by_tie : (b : Bool) → eq_by_cmp path_cmp k f.0 ≡ b → finite.find path_cmp k es ≡ Some e → cond b (Some f.1) (finite.find path_cmp k es) ≡ Some e
    by_tie true t rest = absurd (tail_misses es (and_first _ _ sorted) rest)
      where
        tail_misses : (es : List Pair) → T (below_all path_cmp f.0 es) → finite.find path_cmp k es ≡ Some e → ⊥
        tail_misses [] h is = cc
        tail_misses (g ∷ gs) h is =
            let lt : path_cmp k g.0 ≡ Less = ap (λ x. path_cmp x g.0) (same_path k f.0 t) ∙ is_less _ (and_first _ _ h) in
            tail_misses gs (and_second _ _ h) (ap (λ o. cond (is_eq o) (Some g.1) (finite.find path_cmp k gs)) (sym lt) ∙ is)
    by_tie false t rest = rest

-- ---- a walk

-- what is left of a walk begins with the entry that the walk is at
pub walk_first : (es : List Pair) (k : List (List ℕ)) (e : Entry) → slice_get es 0 ≡ Some (k, e) → es ≡ (k, e) ∷ drop 1 es
walk_first [] k e is = absurd cc
walk_first (f ∷ es) k e is = let same : f ≡ (k, e) = cc in ap (λ x. x ∷ es) same

-- if no first entry is left of a walk, nothing is left
pub walk_end : (es : List Pair) → slice_get es 0 ≡ None → es ≡ []
walk_end [] is = refl
walk_end (f ∷ es) is = absurd cc

-- the entries that are not at or below a path
abbrev pub beside : List (List ℕ) → List Pair → List Pair
beside k es = where_key path_cmp (λ q. not (is_within k q)) es

-- past the first entry are the later ones that are not below its path
pub past_is : (es : List Pair) (k : List (List ℕ)) (e : Entry) → slice_get es 0 ≡ Some (k, e) → past es ≡ beside k (drop 1 es)
past_is [] k e is = absurd cc
past_is (f ∷ es) k e is = let same : f ≡ (k, e) = cc in ap (λ x. beside x.0 es) same

-- the entries that are not at or below a path are at most as many as all of them
beside_short : (k : List (List ℕ)) (es : List Pair) → length (beside k es) ≤ length es
beside_short k [] = omega arith
beside_short k (e ∷ es) = by_test (not (is_within k e.0)) (beside_short k es)
  where
    by_test : (b : Bool) → length (beside k es) ≤ length es → length (cond b (e ∷ beside k es) (beside k es)) ≤ suc (length es)
    by_test true rest = omega (arith, rest)
    by_test false rest = omega (arith, rest)

-- passing an entry and what is below it leaves fewer entries, so the walk ends
pub skip_short : (es fs : List Pair) (k : List (List ℕ)) (e : Entry) → slice_get es 0 ≡ Some (k, e) → past es ≡ fs → length fs < length es
skip_short es fs k e is next =
    let long = ap length (walk_first es k e is) in
    let same = ap length (sym (past_is es k e is) ∙ next) in
    omega (arith, long, same, beside_short k (drop 1 es))
