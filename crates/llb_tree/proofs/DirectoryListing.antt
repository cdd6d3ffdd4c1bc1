-- The names one below a path.
use Rattle.std.proofs.Common.{◌≡◌, ℕ, zero, suc, ◌<◌, ◌==◌, Bool, true, false, cond, ◌&&◌, List, [], ◌∷◌, ◌++◌, length, drop, take, get_or}
use Rattle.std.proofs.Common.{map, None, Ok, Err, T, refl, sym, ap, subst, ◌∙◌, arith, append_assoc}
use Rattle.std.proofs.lemmas.List.{map-append, append-nil}
use Rattle.std.proofs.lemmas.Grind.{flat_map-append}
use Rattle.std.proofs.lemmas.Bool.Decides.{nat_tests}
use Rattle.std.specs.declared.cmp.Ordering.TheVariants.{Less}
use Rattle.std.specs.List.{flat_map}
use Rattle.std.specs.FinMap as finite
use Rattle.std.specs.FinMap.Entries.{where_key, below_all}
use Rattle.llb_tree.specs.Path.{path_cmp, is_within}
use Rattle.llb_tree.specs.PathOrder.{path_cmp-IsTotalOrder, path_cmp-IsAntisymmetric}
use Rattle.llb_tree.specs.declared.fault.TreeFault.TheVariants.{NotFound}
use Rattle.llb_tree.specs.Tree.{Entry, TreeMap, all_dirs, name_below, moved, list, dir_there, tree_at}
use Rattle.llb_tree.specs.Nodes.{name_of, below, flat}
use Rattle.llb_tree.specs.declared.node.Child.{Child}
use Rattle.llb_wire.specs.CallResults.{◌>>=◌}
use Rattle.llb_tree.proofs.EntryOrder.{is_less, less_is, and_first, and_second, and_both}
use Rattle.llb_tree.proofs.PathsBelow.{within_split, cmp-append}
use Rattle.llb_tree.proofs.SubtreeEntries.{Pair, inside, get-tree_at}
use Rattle.llb_tree.proofs.Entries.{entries-from_entries}

-- where there is a directory at a path, the list is the last names of the paths that are one name below it
pub list-Ok : (t : TreeMap) (p : List (List ℕ)) → dir_there t p ≡ Ok tt → list t p ≡ Ok (flat_map (name_below p) (finite.keys t))
list-Ok t p there = ap (λ r. r >>= λ _. Ok (flat_map (name_below p) (finite.keys t))) there

-- the names of the entries that are one name deep
abbrev pub tops : List Pair → List (List ℕ)
tops es = flat_map (name_below []) (map (λ e. e.0) es)

-- what is not below a path adds no name, and what is adds that after the path
names_inside : (p : List (List ℕ)) (es : List Pair) → flat_map (name_below p) (map (λ e. e.0) es) ≡ tops (inside p es)
names_inside p [] = refl
names_inside p (e ∷ es) = by_test (is_within p e.0) refl (names_inside p es)
  where
    by_test : (b : Bool) → is_within p e.0 ≡ b → flat_map (name_below p) (map (λ x. x.0) es) ≡ tops (inside p es)
        → name_below p e.0 ++ flat_map (name_below p) (map (λ x. x.0) es)
        ≡ tops (map (moved (length p) []) (cond b (e ∷ where_key path_cmp (is_within p) es) (where_key path_cmp (is_within p) es)))
    by_test true is rest = (λ i. cond (is i && (length (drop (length p) e.0) == 1)) (drop (length p) e.0) [] ++ rest i)
    by_test false is rest = (λ i. cond (is i && (length (drop (length p) e.0) == 1)) (drop (length p) e.0) [] ++ rest i)

-- what is inside stays in order
all_inside : (p x : List (List ℕ)) (es : List Pair) → is_within p x ≡ true → T (below_all path_cmp x es)
    → T (below_all path_cmp (drop (length p) x) (inside p es))
all_inside p x [] is h = tt
all_inside p x (e ∷ es) is h = by_test (is_within p e.0) refl (all_inside p x es is (and_second _ _ h))
  where
    by_test : (b : Bool) → is_within p e.0 ≡ b → T (below_all path_cmp (drop (length p) x) (inside p es))
        → T (below_all path_cmp (drop (length p) x) (map (moved (length p) [])
        (cond b (e ∷ where_key path_cmp (is_within p) es) (where_key path_cmp (is_within p) es))))
    by_test true here rest =
        let lt : path_cmp (drop (length p) x) (drop (length p) e.0) ≡ Less =
        sym (cmp-append p (drop (length p) x) (drop (length p) e.0)) ∙ sym (λ i. path_cmp (within_split p x is i) (within_split p e.0 here i))
        ∙ is_less _ (and_first _ _ h) in
        and_both _ _ (less_is _ lt) rest
    by_test false here rest = rest

sorted_inside : (p : List (List ℕ)) (es : List Pair) → T (finite.is_sorted path_cmp es) → T (finite.is_sorted path_cmp (inside p es))
sorted_inside p [] h = tt
sorted_inside p (e ∷ es) h = by_test (is_within p e.0) refl (sorted_inside p es (and_second _ _ h))
  where
    by_test : (b : Bool) → is_within p e.0 ≡ b → T (finite.is_sorted path_cmp (inside p es))
        → T (finite.is_sorted path_cmp (map (moved (length p) []) (cond b (e ∷ where_key path_cmp (is_within p) es) (where_key path_cmp (is_within p) es))))
    by_test true is rest = and_both _ _ (all_inside p e.0 es is (and_first _ _ h)) rest
    by_test false is rest = rest

-- a tree that is there below a path has the entries inside
pub entries-inside : (t m : TreeMap) (p : List (List ℕ)) → ((q : List (List ℕ)) → finite.get m q ≡ finite.get t (p ++ q))
    → finite.entries m ≡ inside p (finite.entries t)
entries-inside t m p is =
    ap finite.entries (finite.same_map path_cmp-IsTotalOrder path_cmp-IsAntisymmetric m (tree_at t p) (λ q. is q ∙ sym (get-tree_at t p q)))
    ∙ entries-from_entries path_cmp-IsTotalOrder (inside p (finite.entries t)) (sorted_inside p (finite.entries t) (finite.entries_sorted t))

-- after its own entry, a child is one name deep
no_tops : (n : List ℕ) (x : List (List ℕ)) (es : List Pair) → T (below_all path_cmp x es) → tops (map (λ (e : Pair). (n ∷ e.0, e.1)) es) ≡ []
no_tops n x [] h = refl
no_tops n x ((m ∷ q, e) ∷ es) h = let deep : (suc (suc (length q)) == 1) ≡ false = grind (arith, nat_tests) in
    ap (λ b. cond b (n ∷ m ∷ q) [] ++ tops (map (λ (e : Pair). (n ∷ e.0, e.1)) es)) deep ∙ no_tops n x es (and_second _ _ h)
no_tops n [] (([], e) ∷ es) h = absurd h
no_tops n (m ∷ q) (([], e) ∷ es) h = absurd h

pub tops_below : (k : Child) (e : Entry) (rest : List Pair) → finite.entries k.node ≡ ([], e) ∷ rest → tops (below k) ≡ name_of k ∷ []
tops_below k e rest is =
    let sorted = subst (λ es. T (finite.is_sorted path_cmp es)) is (finite.entries_sorted k.node) in
    ap (λ es. tops (map (λ (x : Pair). (name_of k ∷ x.0, x.1)) es)) is ∙ ap (λ ns. name_of k ∷ ns) (no_tops (name_of k) [] rest (and_first _ _ sorted))

tops-append : (es fs : List Pair) → tops (es ++ fs) ≡ tops es ++ tops fs
tops-append es fs = ap (flat_map (name_below [])) (map-append (λ e. e.0) es fs) ∙ flat_map-append (name_below []) (map (λ e. e.0) es) (map (λ e. e.0) fs)

-- the names at the top of the first children, and then the next child's name, are those of one child more
pub tops_more : (ks : List Child) (i : ℕ) (k : Child) (e : Entry) (rest : List Pair) → i < length ks → k ≡ get_or ks i k
    → finite.entries k.node ≡ ([], e) ∷ rest
    → tops (flat (take i ks)) ++ name_of k ∷ [] ≡ tops (flat (take (suc i) ks))
tops_more [] i k e rest h is es = absurd (omega arith)
tops_more (x ∷ ks) zero k e rest h is es = sym (tops_below k e rest es) ∙ ap (λ y. tops (below y)) is ∙ sym (append-nil (tops (below x)))
    ∙ sym (tops-append (below x) [])
tops_more (x ∷ ks) (suc i) k e rest h is es =
    ap (λ ns. ns ++ name_of k ∷ []) (tops-append (below x) (flat (take i ks))) ∙ append_assoc (tops (below x)) (tops (flat (take i ks))) (name_of k ∷ [])
    ∙ ap (λ ns. tops (below x) ++ ns) (tops_more ks i k e rest (omega arith) is es) ∙ sym (tops-append (below x) (flat (take (suc i) ks)))

-- what is listed where a directory is
pub listed : (t m : TreeMap) (p : List (List ℕ)) (e : Entry) (kids : List Child) → ((q : List (List ℕ)) → finite.get m q ≡ finite.get t (p ++ q))
    → finite.entries m ≡ ([], e) ∷ flat kids → flat_map (name_below p) (finite.keys t) ≡ tops (flat kids)
listed t m p e kids is es = names_inside p (finite.entries t) ∙ ap tops (sym (entries-inside t m p is) ∙ es)

-- where there is nothing at a path, the list is refused as not found
pub list-none : (t : TreeMap) (p : List (List ℕ)) → finite.get t p ≡ None → list t p ≡ Err NotFound
list-none t p none = ap (λ o. all_dirs (o ∷ []) >>= λ _. Ok (flat_map (name_below p) (finite.keys t))) none
