-- The trees that a workspace is on, by their numbers.
use Rattle.std.proofs.Common.{◌≡◌, ◌≢◌, ℕ, zero, suc, ◌+◌, ◌<◌, ◌≤◌, ◌==◌, Bool, true, false, List, [], ◌∷◌, ◌++◌, length, map, drop, get_or}
use Rattle.std.proofs.Common.{Option, Some, None, inl, inr, refl, sym, ap, ◌∙◌, cond, drop-cons, add-one, length-append, arith}
use Rattle.std.specs.Prelude.{slice_get, slice_set, option_map}
use Rattle.std.proofs.lemmas.Bool.{eqb-true, eqb-false, cases_lt}
use Rattle.std.proofs.lemmas.List.{drop_all}
use Rattle.std.proofs.lemmas.Option.{slice_get-map, slice_get-get_or, slice_get_past, slice_get_within}
use Rattle.llb_tree.specs.Tree.{TreeMap}
use Rattle.llb_mount.specs.declared.shown_tree.Shown.{Shown}
use Rattle.llb_mount.specs.View.{mount_at, with_tree_of}
use Rattle.llb_model.specs.Program.{filled}
use Rattle.llb_model.proofs.Lists.{get_set_same, get_set_other, get_within, length_map, length_set}
use Rattle.llb_execution.specs.WorkspaceTrees.{shown_tree, tree_or, last_tree, next_place, Role, Input, ResultOf, input_role, results_from}
use Rattle.llb_execution.proofs.TreeExchanges.{as_many_filled}
use Rattle.llb_model.proofs.ConstructorEqualities.{none_some}

-- ---- the last of some numbers

-- no number is looked at
pub none_looked : (i : ℕ) (ms : List ℕ) (own : Option TreeMap) → last_tree i ms [] own ≡ own
none_looked i [] own = refl
none_looked i (m ∷ ms) own = refl

tree_next : (i m k : ℕ) (trees : List TreeMap) (own : Option TreeMap) (place : Option ℕ) (t : TreeMap) → slice_get trees k ≡ Some t
    → tree_or own trees (next_place i m k place) ≡ cond (m == i) (Some t) (tree_or own trees place)
tree_next i m k trees own place t at = by_test (m == i)
  where
    by_test : (b : Bool) → tree_or own trees (cond b (Some k) place) ≡ cond b (Some t) (tree_or own trees place)
    by_test true = at
    by_test false = refl

-- number k is looked at
pub looked_more : (i : ℕ) (ms : List ℕ) (trees : List TreeMap) (own : Option TreeMap) (place : Option ℕ) (k m : ℕ) → k < length ms → k < length trees
    → get_or ms k m ≡ m
    → last_tree i (drop (k + 1) ms) (drop (k + 1) trees) (tree_or own trees (next_place i m k place))
    ≡ last_tree i (drop k ms) (drop k trees) (tree_or own trees place)
looked_more i ms trees own place k m low inside is =
    let t = get_within trees k inside in
    let at : slice_get trees k ≡ Some (get_or trees k t.0) = slice_get-get_or trees k t.0 inside in
    let numbers : drop k ms ≡ m ∷ drop (k + 1) ms = drop-cons ms k m low ∙ (λ j. is j ∷ drop (sym (add-one k) j) ms) in
    let rest : drop k trees ≡ get_or trees k t.0 ∷ drop (k + 1) trees
    = drop-cons trees k t.0 inside ∙ (λ j. get_or trees k t.0 ∷ drop (sym (add-one k) j) trees) in
    ap (last_tree i (drop (k + 1) ms) (drop (k + 1) trees)) (tree_next i m k trees own place (get_or trees k t.0) at)
    ∙ (λ j. last_tree i (sym numbers j) (sym rest j) (tree_or own trees place))

-- all numbers that count are looked at
pub looked_all : (i : ℕ) (ms : List ℕ) (trees : List TreeMap) (own : Option TreeMap) (k : ℕ) → length ms ≤ k
    → last_tree i (drop k ms) (drop k trees) own ≡ own
looked_all i ms trees own k past = ap (λ l. last_tree i l (drop k trees) own) (drop_all k ms past)

pub looked_held : (i : ℕ) (ms : List ℕ) (trees : List TreeMap) (own : Option TreeMap) (k : ℕ) → length trees ≤ k
    → last_tree i (drop k ms) (drop k trees) own ≡ own
looked_held i ms trees own k past = ap (λ l. last_tree i (drop k ms) l own) (drop_all k trees past) ∙ none_looked i (drop k ms) own

-- ---- mounts

-- the tree of a mount after another tree is put into one
put_tree : (mounts : List Shown) (m : ℕ) (t : TreeMap) (i : ℕ) → i < length mounts
    → slice_get (map shown_tree (with_tree_of mounts m t)) i ≡ cond (m == i) (Some t) (slice_get (map shown_tree mounts) i)
put_tree mounts m t i inside = by_test (m == i) refl
  where
    new : Shown
    new = record (mount_at mounts m) { tree = t }

    by_test : (b : Bool) → (m == i) ≡ b → slice_get (map shown_tree (slice_set mounts m (record (mount_at mounts m) { tree = t }))) i
        ≡ cond b (Some t) (slice_get (map shown_tree mounts) i)
    by_test true is =
        let same : m ≡ i = eqb-true m i is in
        let there = get_within mounts m (omega (arith, same, inside)) in
        slice_get-map shown_tree (slice_set mounts m (record (mount_at mounts m) { tree = t })) i
        ∙ ap (λ k. option_map shown_tree (slice_get (slice_set mounts m (record (mount_at mounts m) { tree = t })) k)) (sym same)
        ∙ ap (option_map shown_tree) (get_set_same mounts m (record (mount_at mounts m) { tree = t }) there.0 there.1)
    by_test false is =
        let apart : i ≢ m = λ e. eqb-false m i is (sym e) in
        slice_get-map shown_tree (slice_set mounts m (record (mount_at mounts m) { tree = t })) i
        ∙ ap (option_map shown_tree) (get_set_other mounts m (record (mount_at mounts m) { tree = t }) i apart)
        ∙ sym (slice_get-map shown_tree mounts i)

-- a mount shows the tree beside the last of these numbers that is its own
pub filled_tree : (mounts : List Shown) (ms : List ℕ) (trees : List TreeMap) (i : ℕ) → i < length mounts
    → slice_get (map shown_tree (filled mounts ms trees)) i ≡ last_tree i ms trees (slice_get (map shown_tree mounts) i)
filled_tree mounts [] trees i inside = refl
filled_tree mounts (m ∷ ms) [] i inside = refl
filled_tree mounts (m ∷ ms) (t ∷ trees) i inside =
    let count : length (with_tree_of mounts m t) ≡ length mounts = length_set mounts m (record (mount_at mounts m) { tree = t }) in
    filled_tree (with_tree_of mounts m t) ms trees i (omega (arith, count, inside))
    ∙ ap (last_tree i ms trees) (put_tree mounts m t i inside)

-- past the last mount there is no tree
pub filled_past : (mounts : List Shown) (ms : List ℕ) (trees : List TreeMap) (i : ℕ) → length mounts ≤ i
    → slice_get (map shown_tree (filled mounts ms trees)) i ≡ None
filled_past mounts ms trees i past =
    let count : length (map shown_tree (filled mounts ms trees)) ≡ length mounts
    = length_map shown_tree (filled mounts ms trees) ∙ as_many_filled mounts ms trees in
    slice_get_past (map shown_tree (filled mounts ms trees)) i (omega (arith, count, past))

-- ---- one list and then another

pub get_front : {A : Type 0} (xs ys : List A) (i : ℕ) → i < length xs → slice_get (xs ++ ys) i ≡ slice_get xs i
get_front [] ys i low = absurd (omega (arith, low))
get_front (x ∷ xs) ys zero low = refl
get_front (x ∷ xs) ys (suc i) low = get_front xs ys i (omega (arith, low))

pub get_behind : {A : Type 0} (xs ys : List A) (i k : ℕ) → i ≡ length xs + k → slice_get (xs ++ ys) i ≡ slice_get ys k
get_behind [] ys i k is = ap (slice_get ys) (nothing i k is)
  where
    nothing : (i k : ℕ) → i ≡ 0 + k → i ≡ k
    nothing i k is = omega (arith, is)
get_behind (x ∷ xs) ys zero k is = absurd (omega (arith, is))
get_behind (x ∷ xs) ys (suc i) k is = get_behind xs ys i k (omega (arith, is))

-- ---- roles

pub input_at : (ts : List TreeMap) (i : ℕ) → i < length ts → slice_get (map input_role ts) i ≡ Some Input
input_at [] i low = absurd (omega (arith, low))
input_at (t ∷ ts) zero low = refl
input_at (t ∷ ts) (suc i) low = input_at ts i (omega (arith, low))

results_count : (a : ℕ) (ts : List TreeMap) → length (results_from a ts) ≡ length ts
results_count a [] = refl
results_count a (t ∷ ts) = ap suc (results_count (a + 1) ts)

result_at : (a : ℕ) (ts : List TreeMap) (i : ℕ) → i < length ts → slice_get (results_from a ts) i ≡ Some (ResultOf (a + i))
result_at a [] i low = absurd (omega (arith, low))
result_at a (t ∷ ts) zero low = ap (λ n. Some (ResultOf n)) (here a)
  where
    here : (a : ℕ) → a ≡ a + 0
    here a = omega arith
result_at a (t ∷ ts) (suc i) low = result_at (a + 1) ts i (omega (arith, low)) ∙ ap (λ n. Some (ResultOf n)) (next a i)
  where
    next : (a i : ℕ) → (a + 1) + i ≡ a + suc i
    next a i = omega arith

-- what the trees of a file op are
pub file_input : (inputs : List TreeMap) (rest : List Role) (i : ℕ) → i < length inputs → slice_get (map input_role inputs ++ rest) i ≡ Some Input
file_input inputs rest i low =
    let count : length (map input_role inputs) ≡ length inputs = length_map input_role inputs in
    get_front (map input_role inputs) rest i (omega (arith, count, low)) ∙ input_at inputs i low

pub behind_inputs : (inputs : List TreeMap) (rest : List Role) (i k : ℕ) → i ≡ length inputs + k
    → slice_get (map input_role inputs ++ rest) i ≡ slice_get rest k
behind_inputs inputs rest i k is =
    let count : length (map input_role inputs) ≡ length inputs = length_map input_role inputs in
    get_behind (map input_role inputs) rest i k (omega (arith, count, is))

pub file_result : (inputs results : List TreeMap) (i a : ℕ) → i ≡ length inputs + a → a < length results
    → slice_get (map input_role inputs ++ results_from 0 results) i ≡ Some (ResultOf a)
file_result inputs results i a is low =
    behind_inputs inputs (results_from 0 results) i a is ∙ result_at 0 results a low ∙ ap (λ n. Some (ResultOf n)) (from_none a)
  where
    from_none : (a : ℕ) → 0 + a ≡ a
    from_none a = omega arith

pub file_past : (inputs results : List TreeMap) (i a : ℕ) → i ≡ length inputs + a → length results ≤ a
    → slice_get (map input_role inputs ++ results_from 0 results) i ≡ None
file_past inputs results i a is past =
    let count : length (results_from 0 results) ≡ length results = results_count 0 results in
    behind_inputs inputs (results_from 0 results) i a is ∙ slice_get_past (results_from 0 results) a (omega (arith, count, past))

-- ---- a look

-- a look at a mount that is there
pub seen_there : (mounts : List Shown) (ms : List ℕ) (i : ℕ) (t : TreeMap) (trees : List TreeMap) (place : Option ℕ)
    → slice_get (map shown_tree mounts) i ≡ Some t → tree_or (Some t) trees place ≡ last_tree i ms trees (Some t)
    → tree_or (Some t) trees place ≡ slice_get (map shown_tree (filled mounts ms trees)) i
seen_there mounts ms i t trees place at last =
    let count : length (map shown_tree mounts) ≡ length mounts = length_map shown_tree mounts in
    let within : i < length (map shown_tree mounts) = slice_get_within (map shown_tree mounts) i t at in
    last ∙ ap (last_tree i ms trees) (sym at) ∙ sym (filled_tree mounts ms trees i (omega (arith, count, within)))

-- a look at a mount that is not there
pub seen_past : (mounts : List Shown) (ms : List ℕ) (i : ℕ) (trees : List TreeMap) → slice_get (map shown_tree mounts) i ≡ None
    → None ≡ slice_get (map shown_tree (filled mounts ms trees)) i
seen_past mounts ms i trees none =
    let count : length (map shown_tree mounts) ≡ length mounts = length_map shown_tree mounts in
    elim (cases_lt i (length mounts)) [
      | inl low ↦ absurd (none_some (sym none ∙ (get_within (map shown_tree mounts) i (omega (arith, count, low))).1))
      | inr past ↦ sym (filled_past mounts ms trees i past)
    ]

-- how many trees a file op has
pub files_count : (inputs results : List TreeMap) → length (map input_role inputs ++ results_from 0 results) ≡ length inputs + length results
files_count inputs results =
    length-append (map input_role inputs) (results_from 0 results)
    ∙ (λ j. length_map input_role inputs j + results_count 0 results j)
