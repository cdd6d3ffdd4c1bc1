-- How deep a node goes, by its children, and what that says of the places of a tree below a path.
use denote.Param.Weighed.{most}
use Rattle.std.proofs.Common.{◌≡◌, ℕ, zero, suc, ◌+◌, ◌-◌, ◌<◌, ◌≤◌, nat_lt, Bool, true, false, cond, List, [], ◌∷◌, length, get_or, map}
use Rattle.std.proofs.Common.{Option, Some, None, is_some, Ok, Err, refl, sym, ap, subst, ◌∙◌, arith}
use Rattle.std.proofs.lemmas.Bool.{le-ltb, ltb-true, ltb-false}
use Rattle.std.proofs.lemmas.List.{get_or_default}
use Rattle.std.specs.Option.{option_or}
use Rattle.std.specs.Ordering.{is_eq}
use Rattle.std.specs.Arc.{arc_value}
use Rattle.std.specs.FinMap as finite
use Rattle.llb_tree.specs.Path.{name_cmp}
use Rattle.llb_tree.specs.Tree.{TreeMap, Entry, height, places_fit}
use Rattle.llb_tree.specs.Nodes.{name_of, kids_of, kids_in, map_of}
use Rattle.llb_tree.specs.EntryLookup.{look_kids, get-below, get-root}
use Rattle.llb_tree.specs.TreeHeights.{height_le, le_height, falls}
use Rattle.llb_tree.specs.declared.fault.TreeFault.TheVariants.{BadName}
use Rattle.llb_tree.specs.declared.node.Kind.{Kind}
use Rattle.llb_tree.specs.declared.node.Kind.TheVariants as kind
use Rattle.llb_tree.specs.declared.node.Child.{Child}
use Rattle.llb_tree.specs.declared.node.Node.TheDeep.{deep-Child}
use Rattle.llb_tree.proofs.ChildLookup.{le_pieces}
use Rattle.llb_tree.proofs.ChildCursor.{IsNext}

most_at : (ks : List Child) (j : ℕ) (d : Child) → j < length ks → height (get_or ks j d).node + 1 ≤ most deep-Child ks
most_at [] j d lt = absurd (omega arith)
most_at (k ∷ ks) zero d lt = omega arith
most_at (k ∷ ks) (suc j) d lt = let rest = most_at ks j d (omega arith) in omega (arith, rest)

-- the first of the children goes less deep than the deepest, and those after it no deeper
pub first_below : (left rest : List Child) (kid : Child) → left ≡ kid ∷ rest
    → (height kid.node + 1 ≤ most deep-Child left) × (most deep-Child rest ≤ most deep-Child left)
first_below left rest kid is = subst (λ ks. (height kid.node + 1 ≤ most deep-Child ks) × (most deep-Child rest ≤ most deep-Child ks)) (sym is)
    (omega arith, omega arith)

-- the next of the children goes less deep than the deepest
pub next_below : (all rest : List Child) (i : ℕ) (kid : Child) → IsNext all rest i kid → height kid.node + 1 ≤ most deep-Child all
next_below all rest i kid next = subst (λ (k : Child). height k.node + 1 ≤ most deep-Child all) (sym next.here) (most_at all i kid next.within)

-- a child goes less deep than its directory
kid_below : (k : Kind) (j : ℕ) (d : Child) → j < length (kids_of k) → height (get_or (kids_of k) j d).node + 1 ≤ height (map_of k)
kid_below (kind.File m c) j d lt = absurd (omega arith)
kid_below (kind.Dir m kids) j d lt =
    let ks = kids_in (arc_value kids).items in
    let kid = most_at ks j d lt in
    let all = falls (kind.Dir m kids) in
    let le : most deep-Child ks ≤ height (map_of (kind.Dir m kids)) = le_pieces _ (arc_value kids).items (omega (arith, all)) in
    omega (arith, kid, le)

-- the first i children go no deeper than n
abbrev pub AllWithin : List Child → ℕ → ℕ → Type 0
AllWithin ks i n = (j : ℕ) (d : Child) → j < i → height (get_or ks j d).node ≤ n

-- what is found among children is found in one
look_le : (n : ℕ) (ks : List Child) → AllWithin ks (length ks) n → (m : List ℕ) (q : List (List ℕ)) → is_some (look_kids ks m q) ≡ true →
    length q + 1 ≤ n
look_le n [] all m q there = absurd cc
look_le n (k ∷ ks) all m q there =
    by_first (look_le n ks (λ j d lt. all (suc j) d (omega (arith, lt))) m q) (is_eq (name_cmp m (name_of k))) (finite.get k.node q) refl there
  where
    by_first : (is_some (look_kids ks m q) ≡ true → length q + 1 ≤ n) → (b : Bool) (e : Option Entry) → finite.get k.node q ≡ e →
        is_some (option_or (cond b e None) (look_kids ks m q)) ≡ true → length q + 1 ≤ n
    by_first rest true (Some e) is there =
        let le = le_height k.node q (ap is_some is) in
        let first : height k.node ≤ n = all 0 k (omega arith) in
        omega arith
    by_first rest true None is there = rest there
    by_first rest false e is there = rest there

-- a directory goes one deeper than its children at most
height_kids : (k : Kind) (n : ℕ) → AllWithin (kids_of k) (length (kids_of k)) n → height (map_of k) ≤ n + 1
height_kids k n all = height_le (map_of k) (n + 1) by_path
  where
    by_path : (q : List (List ℕ)) → is_some (finite.get (map_of k) q) ≡ true → length q + 1 ≤ n + 1
    by_path [] there = omega arith
    by_path (m ∷ q) there = let le = look_le n (kids_of k) all m q (sym (ap is_some (get-below k m q)) ∙ there) in omega (arith, le)

height_some : (k : Kind) → 1 ≤ height (map_of k)
height_some k = le_height (map_of k) [] (ap is_some (get-root k))

-- ---- the places below a path

abbrev Pair : Type 0
Pair = List (List ℕ) × Entry

abbrev tall : List Pair → ℕ
tall es = most (λ (e : Pair). length e.0 + 1) es

fits_all : (p : List (List ℕ)) (es : List Pair) → length p + tall es ≤ 129 → places_fit p (map (λ x. x.0) es) ≡ Ok tt
fits_all p [] le = refl
fits_all p (e ∷ es) le =
    ap (λ b. cond b (Err BadName) (places_fit p (map (λ x. x.0) es))) (le-ltb 128 (length p + length e.0) (omega arith))
    ∙ fits_all p es (omega arith)

fits_none : (p : List (List ℕ)) (es : List Pair) → length p ≤ 128 → 129 < length p + tall es → places_fit p (map (λ x. x.0) es) ≡ Err BadName
fits_none p [] short lt = absurd (omega arith)
fits_none p (e ∷ es) short lt = by_test (fits_none p es short) (nat_lt 128 (length p + length e.0)) refl
  where
    by_test : (129 < length p + tall es → places_fit p (map (λ x. x.0) es) ≡ Err BadName) → (b : Bool) → nat_lt 128 (length p + length e.0) ≡ b →
        cond b (Err BadName) (places_fit p (map (λ x. x.0) es)) ≡ Err BadName
    by_test rest true is = refl
    by_test rest false is = let le = ltb-false 128 (length p + length e.0) is in rest (omega (arith, le, lt))

-- a path of as many names as leave room for a tree's longest path has room below it for each place of the tree
pub fit_all : (p : List (List ℕ)) (t : TreeMap) → length p + height t ≤ 129 → Ok tt ≡ places_fit p (finite.keys t)
fit_all p t le = sym (fits_all p (finite.entries t) le)

-- a number that is not at most another is above it
pub less : (m n : ℕ) → (n ≤ m → ⊥) → m < n
less m n never = by_test (nat_lt m n) refl
  where
    by_test : (b : Bool) → nat_lt m n ≡ b → m < n
    by_test true is = ltb-true m n is
    by_test false is = absurd (never (ltb-false m n is))

-- a path of too many names for a tree's longest path is refused, as a bad name
pub fit_none : (p : List (List ℕ)) (t : TreeMap) → length p ≤ 128 → 129 < length p + height t → Err BadName ≡ places_fit p (finite.keys t)
fit_none p t short lt = sym (fits_none p (finite.entries t) short lt)

-- ---- the levels of a node, by its kind

module _ (k : Kind) (v : TreeMap) (view : map_of k ≡ v) (levels : ℕ) where
  -- every node has a height, so none fits in no levels
  pub above_none : levels ≡ 0 → height v ≤ levels → ⊥
  above_none none le = let some : 1 ≤ height v = subst (λ m. 1 ≤ height m) view (height_some k) in absurd (omega (arith, some, le, none))

  -- a node fits if all its children fit in one level less
  pub within_kids : (ks : List Child) → kids_of k ≡ ks → 1 ≤ levels → AllWithin ks (length ks) (levels - 1) → height v ≤ levels
  within_kids ks kids some all =
      let own : height (map_of k) ≤ (levels - 1) + 1 = height_kids k (levels - 1) (subst (λ xs. AllWithin xs (length xs) (levels - 1)) (sym kids) all) in
      let le : height v ≤ (levels - 1) + 1 = subst (λ m. height m ≤ (levels - 1) + 1) view own in
      omega (arith, le, some)

  -- and if it fits, each of its children fits in one level less
  pub kid_within : (ks : List Child) (j : ℕ) (kid : Child) → kids_of k ≡ ks → kid ≡ get_or ks j kid → j < length ks → height v ≤ levels →
      height kid.node ≤ levels - 1
  kid_within ks j kid kids at lt le =
      let own = kid_below k j kid (subst (λ xs. j < length xs) (sym kids) lt) in
      let below : height (get_or ks j kid).node + 1 ≤ height (map_of k) = subst (λ xs. height (get_or xs j kid).node + 1 ≤ height (map_of k)) kids own in
      let there : height kid.node + 1 ≤ height (map_of k) = subst (λ x. height x.node + 1 ≤ height (map_of k)) (sym at) below in
      let here : height kid.node + 1 ≤ height v = subst (λ m. height kid.node + 1 ≤ height m) view there in
      omega (arith, here, le)

-- where the first i children go no deeper than n, and neither does the next one, the first i + 1 go no deeper
pub all_more : (ks : List Child) (i n : ℕ) (kid : Child) → kid ≡ get_or ks i kid → i < length ks → height kid.node ≤ n → AllWithin ks i n →
    AllWithin ks (i + 1) n
all_more ks i n kid at lt le so_far j d below = by_test (nat_lt j i) refl
  where
    by_test : (b : Bool) → nat_lt j i ≡ b → height (get_or ks j d).node ≤ n
    by_test true is = so_far j d (ltb-true j i is)
    by_test false is =
        let past = ltb-false j i is in
        let last : i ≡ j = omega (arith, past, below) in
        subst (λ m. height (get_or ks m d).node ≤ n) last (subst (λ x. height x.node ≤ n) (at ∙ get_or_default ks i kid d lt) le)
