-- Entries that land at their places, one after another.
use Rattle.std.proofs.Common.{◌≡◌, ℕ, ◌+◌, ◌<◌, ◌≤◌, Bool, true, false, cond, not, List, [], ◌∷◌, ◌++◌, map, length, drop, Some}
use Rattle.std.proofs.Common.{None, Result, Ok, Err, refl, sym, ap, ◌∙◌, arith, length-append}
use Rattle.std.proofs.lemmas.Bool.{lt-ltb, le-ltb, ltb-false}
use Rattle.std.specs.Prelude.{slice_get, nat_lt}
use Rattle.std.specs.FinMap as finite
use Rattle.llb_wire.specs.CallResults.{◌>>=◌}
use Rattle.llb_tree.specs.Path.{is_within}
use Rattle.llb_tree.specs.Tree.{TreeMap, Entry, moved, places_fit, IsTree}
use Rattle.llb_tree.specs.declared.fault.TreeFault.{TreeFault}
use Rattle.llb_tree.specs.declared.fault.TreeFault.TheVariants.{BadName}
use Rattle.llb_fileop.specs.Copying.{fits, meets, all_land}
use Rattle.llb_fileop.specs.CopyPlacement.{all_below, all_meet}
use Rattle.llb_tree.proofs.PathsBelow.{within_split}
use Rattle.llb_tree.proofs.EditedMaps.{none_below}
use Rattle.llb_fileop.proofs.PathOrderTraversal.{Pair, walk_first, beside}

-- a path of at most 128 names fits
pub fits-Ok : (p : List (List ℕ)) → length p ≤ 128 → fits p ≡ Ok tt
fits-Ok p short = ap (λ b. cond {A = Result (Unit {0}) TreeFault} b (Err BadName) (Ok tt)) (le-ltb 128 (length p) short)

-- a path that passes the test of its length has at most 128 names
pub fits_short : (p : List (List ℕ)) → fits p ≡ Ok tt → length p ≤ 128
fits_short p is = by_test (nat_lt 128 (length p)) refl is
  where
    by_test : (b : Bool) → nat_lt 128 (length p) ≡ b → cond {A = Result (Unit {0}) TreeFault} b (Err BadName) (Ok tt) ≡ Ok tt → length p ≤ 128
    by_test true t is = absurd cc
    by_test false t is = omega (arith, ltb-false 128 (length p) t)

-- entries can land below a path exactly if they can land at their places in the whole tree, and the fault is the same
pub lands_below : (here t : TreeMap) (goal : List (List ℕ)) → ((q : List (List ℕ)) → finite.get here q ≡ finite.get t (goal ++ q)) → (es : List Pair)
    → all_below here (length goal) es ≡ all_land t (map (moved 0 goal) es)
lands_below here t goal same [] = refl
lands_below here t goal same (e ∷ es) =
    by_test (nat_lt 128 (length goal + length e.0)) (lands_below here t goal same es)
    ∙ ap (λ n. cond {A = Result (Unit {0}) TreeFault} (nat_lt 128 n) (Err BadName) (Ok tt) >>= λ _. later)
    (sym (length-append goal e.0))
  where
    later : Result (Unit {0}) TreeFault
    later = meets (finite.get t (goal ++ e.0)) e.1 >>= λ _. all_land t (map (moved 0 goal) es)

    by_test : (b : Bool) → all_below here (length goal) es ≡ all_land t (map (moved 0 goal) es)
        → cond b (Err BadName) (meets (finite.get here e.0) e.1 >>= λ _. all_below here (length goal) es)
        ≡ (cond {A = Result (Unit {0}) TreeFault} b (Err BadName) (Ok tt) >>= λ _. later)
    by_test true rest = refl
    by_test false rest = λ i. meets (same e.0 i) e.1 >>= λ _. rest i

-- if every path fits, only what is there decides
pub meet_where_fit : (here : TreeMap) (goal : List (List ℕ)) (es : List Pair)
    → places_fit goal (map (λ e. e.0) es) ≡ Ok tt → all_below here (length goal) es ≡ all_meet here es
meet_where_fit here goal [] fit = refl
meet_where_fit here goal (e ∷ es) fit = by_test (nat_lt 128 (length goal + length e.0)) fit (meet_where_fit here goal es)
  where
    by_test : (b : Bool) → cond b (Err BadName) (places_fit goal (map (λ x. x.0) es)) ≡ Ok tt
        → (places_fit goal (map (λ x. x.0) es) ≡ Ok tt → all_below here (length goal) es ≡ all_meet here es)
        → cond b (Err BadName) (meets (finite.get here e.0) e.1 >>= λ _. all_below here (length goal) es)
        ≡ (meets (finite.get here e.0) e.1 >>= λ _. all_meet here es)
    by_test true fit rest = absurd cc
    by_test false fit rest = ap (λ r. meets (finite.get here e.0) e.1 >>= λ _. r) (rest fit)

-- ---- a step of a walk

module _ (here : TreeMap) (es : List Pair) (k : List (List ℕ)) (e : Entry) (is : slice_get es 0 ≡ Some (k, e)) where
  -- the first entry is tested against what is at its path, and then the others are
  pub meet_next : all_meet here es ≡ (meets (finite.get here k) e >>= λ _. all_meet here (drop 1 es))
  meet_next = ap (all_meet here) (walk_first es k e is)

  abbrev on : ℕ → Result (Unit {0}) TreeFault
  on depth = meets (finite.get here k) e >>= λ _. all_below here depth (drop 1 es)

  -- the first entry would have a path of more than 128 names, so it can't land
  pub below_deep : (depth : ℕ) → 128 < depth + length k → all_below here depth es ≡ Err BadName
  below_deep depth deep = ap (all_below here depth) (walk_first es k e is) ∙ ap (λ b. cond b (Err BadName) (on depth)) (lt-ltb 128 (depth + length k) deep)

  -- if its path is short enough, what is there decides, and then the others
  pub below_next : (depth : ℕ) → depth + length k ≤ 128 → all_below here depth es ≡ on depth
  below_next depth short = ap (all_below here depth) (walk_first es k e is) ∙ ap (λ b. cond b (Err BadName) (on depth)) (le-ltb 128 (depth + length k) short)

meet_beside : (here : TreeMap) → IsTree here → (k : List (List ℕ)) (es : List Pair) → finite.get here k ≡ None → all_meet here es ≡ all_meet here (beside k es)
meet_beside here tree k [] none = refl
meet_beside here tree k (e ∷ es) none = by_place (is_within k e.0) refl (meet_beside here tree k es none)
  where
    by_place : (w : Bool) → is_within k e.0 ≡ w → all_meet here es ≡ all_meet here (beside k es)
        → (meets (finite.get here e.0) e.1 >>= λ _. all_meet here es) ≡ all_meet here (cond (not w) (e ∷ beside k es) (beside k es))
    by_place true inside rest =
        let clear = ap (finite.get here) (within_split k e.0 inside) ∙ none_below here k (drop (length k) e.0) tree none in
        ap (λ o. meets o e.1 >>= λ _. all_meet here es) clear ∙ rest
    by_place false inside rest = ap (λ r. meets (finite.get here e.0) e.1 >>= λ _. r) rest

-- if a tree has nothing at the first entry's path, what is below that path meets nothing and may be passed over
pub meet_skip : (here : TreeMap) → IsTree here → (es : List Pair) (k : List (List ℕ)) (e : Entry) → slice_get es 0 ≡ Some (k, e) → finite.get here k ≡ None
    → all_meet here es ≡ all_meet here (beside k (drop 1 es))
meet_skip here tree es k e is none =
    meet_next here es k e is ∙ ap (λ o. meets o e >>= λ _. all_meet here (drop 1 es)) none ∙ meet_beside here tree k (drop 1 es) none
