-- A node's entries: its own, and then those of its children, one child after another.
use Rattle.std.proofs.Common.{◌≡◌, ℕ, List, [], ◌∷◌, ◌++◌, map, length, Some, None, T, refl, sym, ap, subst, ◌∙◌, arith}
use Rattle.std.specs.declared.cmp.Ordering.{Ordering}
use Rattle.std.specs.declared.cmp.Ordering.TheVariants.{Less}
use Rattle.std.specs.Cmp.{IsTotalOrder, tied_itself}
use Rattle.std.specs.Cmp.Lexicographic.{nat_list_cmp_total}
use Rattle.std.specs.Ordering.{is_lt, ordering_then}
use Rattle.std.specs.FinMap as finite
use Rattle.std.specs.FinMap.Entries.{by_order, below_all, put}
use Rattle.llb_tree.specs.Path.{name_cmp, path_cmp}
use Rattle.llb_tree.specs.PathOrder.{path_cmp-IsTotalOrder}
use Rattle.llb_tree.specs.Tree.{TreeMap, Entry}
use Rattle.llb_tree.specs.EntryLookup.{get-root}
use Rattle.llb_tree.specs.Nodes.{name_of, below, flat, kids_of, own_entry, entries_of, map_of, pair_of, AreSorted}
use Rattle.llb_tree.specs.declared.node.Kind.{Kind}
use Rattle.llb_tree.specs.declared.node.Child.{Child}
use Rattle.llb_tree.proofs.EntryOrder.{is_less, and_first, and_second, and_both, below_first, find_below}

abbrev Pair : Type 0
Pair = List (List ℕ) × Entry

-- a list of length zero is the empty one
pub nothing : {A : Type 0} (es : List A) → length es ≡ 0 → es ≡ []
nothing [] none = refl
nothing (e ∷ es) none = absurd (omega arith)

module _ {K X : Type 0} {R : K → K → Ordering} (o : IsTotalOrder R) where
  put_front : (e : K × X) (es : List (K × X)) → T (below_all R e.0 es) → put R e.0 e.1 es ≡ e ∷ es
  put_front e [] h = refl
  put_front e (f ∷ es) h = ap (λ r. by_order r (e ∷ f ∷ es) ((f.0, e.1) ∷ es) (f ∷ put R e.0 e.1 es)) (is_less _ (and_first _ _ h))

  -- a list in order is what its map has
  pub entries-from_entries : (es : List (K × X)) → T (finite.is_sorted R es) → finite.entries (finite.from_entries {R = R} es) ≡ es
  entries-from_entries [] h = nothing (finite.entries (finite.empty {X = X} {R = R})) (sym (finite.len-entries (finite.empty {X = X} {R = R}))
      ∙ finite.len-empty R X)
  entries-from_entries (e ∷ es) h =
      finite.entries-insert o (finite.from_entries es) e.0 e.1
      ∙ ap (put R e.0 e.1) (entries-from_entries es (and_second _ _ h))
      ∙ put_front e es (and_first _ _ h)

  below-append : (x : K) (es fs : List (K × X)) → T (below_all R x es) → T (below_all R x fs) → T (below_all R x (es ++ fs))
  below-append x [] fs h g = g
  below-append x (e ∷ es) fs h g = and_both _ _ (and_first _ _ h) (below-append x es fs (and_second _ _ h) g)

-- after a name, all that begins with it is before what begins with a later one
abbrev prefixed : List ℕ → List Pair → List Pair
prefixed n es = map (λ (e : Pair). (n ∷ e.0, e.1)) es

below_prefixed : (n : List ℕ) (x : List (List ℕ)) (es : List Pair) → T (below_all path_cmp x es) → T (below_all path_cmp (n ∷ x) (prefixed n es))
below_prefixed n x [] h = tt
below_prefixed n x (e ∷ es) h =
    and_both _ _ (subst (λ r. T (is_lt (ordering_then r (path_cmp x e.0)))) (sym (tied_itself nat_list_cmp_total n)) (and_first _ _ h))
    (below_prefixed n x es (and_second _ _ h))

pub sorted_prefixed : (n : List ℕ) (es : List Pair) → T (finite.is_sorted path_cmp es) → T (finite.is_sorted path_cmp (prefixed n es))
sorted_prefixed n [] h = tt
sorted_prefixed n (e ∷ es) h = and_both _ _ (below_prefixed n e.0 es (and_first _ _ h)) (sorted_prefixed n es (and_second _ _ h))

below_later : (n m : List ℕ) (x : List (List ℕ)) (es : List Pair) → name_cmp n m ≡ Less → T (below_all path_cmp (n ∷ x) (prefixed m es))
below_later n m x [] lt = tt
below_later n m x (e ∷ es) lt = and_both _ _ (subst (λ r. T (is_lt (ordering_then r (path_cmp x e.0)))) (sym lt) tt) (below_later n m x es lt)

pub below_flat : (n : List ℕ) (x : List (List ℕ)) (ks : List Child) → T (below_all name_cmp n (map pair_of ks)) → T (below_all path_cmp (n ∷ x) (flat ks))
below_flat n x [] h = tt
below_flat n x (k ∷ ks) h =
    below-append path_cmp-IsTotalOrder (n ∷ x) (below k) (flat ks)
    (below_later n (name_of k) x (finite.entries k.node) (is_less _ (and_first _ _ h)))
    (below_flat n x ks (and_second _ _ h))

sorted-append : (n : List ℕ) (es fs : List Pair) → T (finite.is_sorted path_cmp (prefixed n es)) → ((x : List (List ℕ)) → T (below_all path_cmp (n ∷ x) fs))
    → T (finite.is_sorted path_cmp fs) → T (finite.is_sorted path_cmp (prefixed n es ++ fs))
sorted-append n [] fs h apart g = g
sorted-append n (e ∷ es) fs h apart g =
    and_both _ _ (below-append path_cmp-IsTotalOrder (n ∷ e.0) (prefixed n es) fs (and_first _ _ h) (apart e.0))
    (sorted-append n es fs (and_second _ _ h) apart g)

pub sorted_flat : (ks : List Child) → AreSorted ks → T (finite.is_sorted path_cmp (flat ks))
sorted_flat [] h = tt
sorted_flat (k ∷ ks) h =
    sorted-append (name_of k) (finite.entries k.node) (flat ks) (sorted_prefixed (name_of k) (finite.entries k.node) (finite.entries_sorted k.node))
    (λ x. below_flat (name_of k) x ks (and_first _ _ h)) (sorted_flat ks (and_second _ _ h))

root_below : (n : List ℕ) (es : List Pair) → T (below_all path_cmp [] (prefixed n es))
root_below n [] = tt
root_below n (e ∷ es) = root_below n es

root_below_flat : (ks : List Child) → T (below_all path_cmp [] (flat ks))
root_below_flat [] = tt
root_below_flat (k ∷ ks) = below-append path_cmp-IsTotalOrder [] (below k) (flat ks) (root_below (name_of k) (finite.entries k.node)) (root_below_flat ks)

pub entries-map_of : (k : Kind) → AreSorted (kids_of k) → finite.entries (map_of k) ≡ entries_of k
entries-map_of k h = entries-from_entries path_cmp-IsTotalOrder (entries_of k) (and_both _ _ (root_below_flat (kids_of k)) (sorted_flat (kids_of k) h))

-- what is at a node is its own entry, and the others are in its children
pub node_entries : (k : Kind) (m : TreeMap) (ks : List Child) → map_of k ≡ m → AreSorted (kids_of k) → kids_of k ≡ ks → (e : Entry)
    → finite.get m [] ≡ Some e → finite.entries m ≡ ([], e) ∷ flat ks
node_entries k m ks view sorted kids e is =
    let own : own_entry k ≡ e = cc (get-root k, ap (λ t. finite.get t []) view) in
    ap finite.entries (sym view) ∙ entries-map_of k sorted ∙ (λ i. ([], own i) ∷ flat (kids i))

-- what is at a node comes first
root_first : (e : Entry) (es : List Pair) → T (finite.is_sorted path_cmp es) → finite.find path_cmp [] es ≡ Some e
    → (rest : List Pair) × (es ≡ ([], e) ∷ rest)
root_first e [] sorted is = absurd cc
root_first e (([], x) ∷ es) sorted is = let same : x ≡ e = cc in (es, ap (λ y. ([], y) ∷ es) same)
root_first e ((n ∷ q, x) ∷ es) sorted is = absurd (found_none
    (find_below path_cmp [] es (below_first path_cmp-IsTotalOrder [] (n ∷ q) es refl (and_first _ _ sorted))) is)
  where
    found_none : finite.find path_cmp [] es ≡ None → finite.find path_cmp [] es ≡ Some e → ⊥
    found_none none some = cc

-- the entry at the root is the first of a tree's entries
pub entries-root : (m : TreeMap) (e : Entry) → finite.get m [] ≡ Some e → (rest : List Pair) × (finite.entries m ≡ ([], e) ∷ rest)
entries-root m e is = root_first e (finite.entries m) (finite.entries_sorted m) (sym (finite.get-entries m []) ∙ is)
