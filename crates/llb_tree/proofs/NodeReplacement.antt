-- A node, or nothing, set at a path.
use Rattle.std.proofs.Common.{◌≡◌, ◌++◌, ℕ, zero, suc, ◌-◌, ◌<◌, ◌≤◌, List, [], ◌∷◌, length, map, take, drop, get_or, set, Option, Some}
use Rattle.std.proofs.Common.{None, refl, sym, ap, ◌∙◌, cond, not, true, false, Bool, OnOk, OnErr, IfOk, add-one, ◌+◌, Result, Ok, Err, T, subst, arith}
use Rattle.std.specs.declared.cmp.Ordering.{Ordering}
use Rattle.std.specs.declared.cmp.Ordering.TheVariants.{Less, Equal, Greater}
use Rattle.std.specs.List.{remove, insert, flat_map}
use Rattle.std.specs.Ordering.{is_eq, eq_by_cmp, ordering_reverse}
use Rattle.std.specs.Cmp.Lexicographic.{nat_list_cmp_total}
use Rattle.std.specs.FinMap as finite
use Rattle.std.specs.FinMap.Entries.{put, find-put, is_sorted-put, where_key, is_sorted-where_key, find-where_key, below_all, by_order}
use Rattle.llb_tree.specs.Path.{name_cmp}
use Rattle.llb_tree.specs.PathOrder.{name_cmp-IsAntisymmetric}
use Rattle.llb_tree.specs.Tree.{TreeMap}
use Rattle.llb_tree.specs.Nodes.{Pair, Pairs, name_of, own_entry, kids_of, pieces_of, map_of, flat, pair_of, AreSorted, look_in, place, later, set_look, Sets}
use Rattle.llb_tree.specs.ChildPieces.{ArePieced, pairs_of, without, change, Changes}
use Rattle.llb_tree.specs.EntryLookup.{get-root}
use Rattle.llb_tree.specs.declared.fault.TreeFault.{TreeFault}
use Rattle.llb_tree.specs.declared.node.Kind.{Kind}
use Rattle.llb_tree.specs.declared.node.Child.{Child}
use Rattle.llb_tree.proofs.EntryOrder.{is_less, and_first, and_second}
use Rattle.llb_tree.proofs.ChildPlaces.{is_found, is_gap, later_Ok}
use Rattle.llb_tree.proofs.ChildLookup.{get-child}
use Rattle.llb_tree.proofs.PiecesAroundName.{pairs_kids, sorted_kids}

-- one child is written anew
sets_put : (n : List ℕ) (p : List (List ℕ)) (t : Option TreeMap) (old new : Pairs) (k : TreeMap) → T (finite.is_sorted name_cmp old)
    → new ≡ put name_cmp n k old → ((q : List (List ℕ)) → finite.get k q ≡ set_look p t (look_in (finite.find name_cmp n old)) q) → Sets n p t old new
sets_put n p t old new k h is changed = record {
  sorted = subst (λ es. T (finite.is_sorted name_cmp es)) (sym is) (is_sorted-put name_cmp nat_list_cmp_total n k old h);
  children = λ m q. ap (λ o. look_in o q) (ap (finite.find name_cmp m) is ∙ find-put name_cmp nat_list_cmp_total m n k old)
      ∙ elim (name_cmp m n) as (λ o. look_in (cond (is_eq o) (Some k) (finite.find name_cmp m old)) q
      ≡ cond (is_eq o) (set_look p t (look_in (finite.find name_cmp n old)) q) (look_in (finite.find name_cmp m old) q)) [
        | Less ↦ refl
        | Equal ↦ changed q
        | Greater ↦ refl
      ];
}

-- the child that is found, changed
pub changes_found : (n : List ℕ) (p : List (List ℕ)) (t : Option TreeMap) (ks : List Child) (i : ℕ) (kid new : Child)
    → Ok i ≡ place n ks → kid ≡ get_or ks i kid → name_of new ≡ name_of kid
    → ((q : List (List ℕ)) → finite.get new.node q ≡ set_look p t (finite.get kid.node) q) → Changes n p t (map pair_of ks) (map pair_of (set ks i new))
changes_found n p t ks i kid new at is same changed = (
  Some new.node,
  (is_found n ks i (sym at)).written kid new (same ∙ ap name_of is),
  λ q. changed q ∙ ap (λ o. set_look p t (look_in o) q) (sym ((is_found n ks i (sym at)).found kid ∙ ap (λ (k : Child). Some k.node) (sym is))),
)

-- a child where there was none
pub changes_gap : (n : List ℕ) (ks : List Child) (i : ℕ) (new : Child) → Err i ≡ place n ks → name_of new ≡ n
    → Changes n [] (Some new.node) (map pair_of ks) (map pair_of (insert ks i new))
changes_gap n ks i new at same = (Some new.node, (is_gap n ks i (sym at)).written new same, λ q. refl)

without_absent : (n : List ℕ) (es : Pairs) → finite.find name_cmp n es ≡ None → without n es ≡ es
without_absent n [] h = refl
without_absent n (e ∷ es) h =
    elim (eq_by_cmp name_cmp n e.0) as (λ b. cond b (Some e.1) (finite.find name_cmp n es) ≡ None
    → cond (not b) (e ∷ without n es) (without n es) ≡ e ∷ es) [
      | true ↦ λ is. absurd cc
      | false ↦ λ is. ap (λ xs. e ∷ xs) (without_absent n es is)
    ] h

-- where a child that is not there is replaced by nothing, nothing changes
pub changes_nothing : (n : List ℕ) (ks : List Child) (i : ℕ) → AreSorted ks → Err i ≡ place n ks → Changes n [] None (map pair_of ks) (map pair_of ks)
changes_nothing n ks i h at = (None, sym (without_absent n (map pair_of ks) ((is_gap n ks i (sym at)).none h)), λ q. refl)

abbrev others : List ℕ → List ℕ → Bool
others n m = not (is_eq (name_cmp n m))

kept_all : (n : List ℕ) (es : Pairs) → T (below_all name_cmp n es) → where_key name_cmp (others n) es ≡ es
kept_all n [] h = refl
kept_all n (e ∷ es) h =
    ap (λ o. cond (not (is_eq o)) (e ∷ where_key name_cmp (others n) es) (where_key name_cmp (others n) es)) (is_less _ (and_first _ _ h))
    ∙ ap (λ xs. e ∷ xs) (kept_all n es (and_second _ _ h))

removed : (n : List ℕ) (ks : List Child) (i : ℕ) → AreSorted ks → place n ks ≡ Ok i → map pair_of (remove ks i) ≡ where_key name_cmp (others n) (map pair_of ks)
removed n [] i h e = absurd (cc)
removed n (k ∷ ks) i h e = by_cmp (λ j e. removed n ks j (and_second _ _ h) e) (name_cmp n (name_of k)) refl e
  where
    by_cmp : ((j : ℕ) → place n ks ≡ Ok j → map pair_of (remove ks j) ≡ where_key name_cmp (others n) (map pair_of ks)) → (o : Ordering)
        → name_cmp n (name_of k) ≡ o → by_order o (Err 0) (Ok 0) (later (place n ks)) ≡ Ok i
        → map pair_of (remove (k ∷ ks) i) ≡ cond (not (is_eq (name_cmp n (name_of k))))
        (pair_of k ∷ where_key name_cmp (others n) (map pair_of ks)) (where_key name_cmp (others n) (map pair_of ks))
    by_cmp rests Less is e = absurd (cc)
    by_cmp rests Equal is e =
        let at : 0 ≡ i = cc in
        ap (λ j. map pair_of (remove (k ∷ ks) j)) (sym at)
        ∙ sym (kept_all n (map pair_of ks) (subst (λ m. T (below_all name_cmp m (map pair_of ks)))
        (sym (name_cmp-IsAntisymmetric n (name_of k) is)) (and_first _ _ h)))
        ∙ sym (ap (λ o. cond (not (is_eq o)) (pair_of k ∷ where_key name_cmp (others n) (map pair_of ks)) (where_key name_cmp (others n) (map pair_of ks))) is)
    by_cmp rests Greater is e =
        let below = later_Ok (place n ks) i e in
        ap (λ j. map pair_of (remove (k ∷ ks) j)) (sym below.2)
        ∙ ap (λ xs. pair_of k ∷ xs) (rests below.0 below.1)
        ∙ sym (ap (λ o. cond (not (is_eq o)) (pair_of k ∷ where_key name_cmp (others n) (map pair_of ks)) (where_key name_cmp (others n) (map pair_of ks))) is)

-- the child that is found, taken away
pub changes_removed : (n : List ℕ) (ks : List Child) (i : ℕ) → AreSorted ks → Ok i ≡ place n ks → Changes n [] None (map pair_of ks) (map pair_of (remove ks i))
changes_removed n ks i h at = (None, removed n ks i h (sym at), λ q. refl)

sets_cut : (n : List ℕ) (p : List (List ℕ)) (t : Option TreeMap) (old new : Pairs) → T (finite.is_sorted name_cmp old) → new ≡ without n old
    → ((q : List (List ℕ)) → None ≡ set_look p t (look_in (finite.find name_cmp n old)) q) → Sets n p t old new
sets_cut n p t old new h is changed = record {
  sorted = subst (λ es. T (finite.is_sorted name_cmp es)) (sym is) (is_sorted-where_key name_cmp (others n) old h);
  children = λ m q. ap (λ o. look_in o q) (ap (finite.find name_cmp m) is
      ∙ find-where_key name_cmp (others n) m (λ x t. ap (others n) (sym (name_cmp-IsAntisymmetric m x t))) old)
      ∙ ap (λ o. look_in (cond (not (is_eq o)) (finite.find name_cmp m old) None) q) (nat_list_cmp_total.antisymm n m)
      ∙ elim (name_cmp m n) as (λ o. look_in (cond (not (is_eq (ordering_reverse o))) (finite.find name_cmp m old) None) q
      ≡ cond (is_eq o) (set_look p t (look_in (finite.find name_cmp n old)) q) (look_in (finite.find name_cmp m old) q)) [
        | Less ↦ refl
        | Equal ↦ changed q
        | Greater ↦ refl
      ];
}

-- what a change of children sets
sets_changed : (n : List ℕ) (p : List (List ℕ)) (t : Option TreeMap) (old new : Pairs) → T (finite.is_sorted name_cmp old) → Changes n p t old new
    → Sets n p t old new
sets_changed n p t old new h c = by_made c.0 c.1 c.2
  where
    by_made : (made : Option TreeMap) → new ≡ change n made old
        → ((q : List (List ℕ)) → look_in made q ≡ set_look p t (look_in (finite.find name_cmp n old)) q) → Sets n p t old new
    by_made (Some k) is looks = sets_put n p t old new k h is looks
    by_made None is looks = sets_cut n p t old new h is looks

-- ---- a directory with its children set

pub dir_set : (k m : Kind) (n : List ℕ) (p : List (List ℕ)) (t : Option TreeMap) → own_entry m ≡ own_entry k → AreSorted (kids_of k)
    → Sets n p t (map pair_of (kids_of k)) (map pair_of (kids_of m)) → (q : List (List ℕ))
    → finite.get (map_of m) q ≡ set_look (n ∷ p) t (finite.get (map_of k)) q
dir_set k m n p t own h g [] = get-root m ∙ ap Some own ∙ sym (get-root k)
dir_set k m n p t own h g (x ∷ q) =
    get-child m x q g.sorted ∙ g.children x q
    ∙ (λ i. cond (is_eq (name_cmp x n)) (set_look p t (λ r. sym (get-child k n r h) i) q) (sym (get-child k x q h) i))

-- the entries of a directory, by the names of its children and the trees that they represent
abbrev flat_pairs : Pairs → List Pair
flat_pairs es = flat_map (λ (k : List ℕ × TreeMap). map (λ (e : Pair). (k.0 ∷ e.0, e.1)) (finite.entries k.1)) es

flat_by : (ks : List Child) → flat ks ≡ flat_pairs (map pair_of ks)
flat_by [] = refl
flat_by (k ∷ ks) = ap (λ es. map (λ (e : Pair). (name_of k ∷ e.0, e.1)) (finite.entries k.node) ++ es) (flat_by ks)

-- nodes with the same own entry, and children of the same names that represent the same trees, have the same map
pub same_dir : (k m : Kind) → own_entry m ≡ own_entry k → map pair_of (kids_of m) ≡ map pair_of (kids_of k) → map_of m ≡ map_of k
same_dir k m own is = λ i. finite.from_entries (([], own i) ∷ (flat_by (kids_of m) ∙ ap flat_pairs is ∙ sym (flat_by (kids_of k))) i)

-- two directories with the same mode and owner, and with pieces of the same pairs, have the same map
pub same_pieces : (k m : Kind) → own_entry m ≡ own_entry k → pairs_of (pieces_of m) ≡ pairs_of (pieces_of k) → map_of m ≡ map_of k
same_pieces k m own is = same_dir k m own (pairs_kids (pieces_of m) ∙ is ∙ sym (pairs_kids (pieces_of k)))

-- ---- names, and what a call changes where it succeeds and where it fails

-- a fact that holds where a call succeeds yields there what follows from it
pub on_ok : {A E P Q : Type 0} (r : Result A E) → (P → Q) → OnOk r P → OnOk r Q
on_ok (Ok x) f h = f h
on_ok (Err e) f h = tt

-- a fact that holds where a call fails yields there what follows from it
pub on_err : {A E P Q : Type 0} (r : Result A E) → (P → Q) → OnErr r P → OnErr r Q
on_err (Ok x) f h = tt
on_err (Err e) f h = f h

-- what follows in both cases holds in any case
pub on_both : {A E P Q R : Type 0} (r : Result A E) → (P → R) → (Q → R) → OnOk r P → OnErr r Q → R
on_both (Ok x) f g p q = f p
on_both (Err e) f g p q = g q

take_whole : (p : List (List ℕ)) (k : ℕ) → length p ≤ k → take k p ≡ p
take_whole [] zero h = refl
take_whole [] (suc k) h = refl
take_whole (n ∷ p) zero h = absurd (omega arith)
take_whole (n ∷ p) (suc k) h = ap (λ q. n ∷ q) (take_whole p k (omega arith))

pub split_names : (names : List (List ℕ)) (n : List ℕ) → 1 ≤ length names → n ≡ get_or names 0 n → names ≡ n ∷ take (length names - 1) (drop 1 names)
split_names [] n h is = absurd (omega arith)
split_names (m ∷ p) n h is = (λ i. sym is i ∷ sym (take_whole p (suc (length p) - 1) (omega arith)) i)

-- setting at the rest of a path below the child of its first name sets at the whole path from the directory
pub node_set : (k m : Kind) (v : TreeMap) (names : List (List ℕ)) (n : List ℕ) (t : Option TreeMap) → map_of k ≡ v
    → own_entry m ≡ own_entry k → ArePieced (pieces_of k) → 1 ≤ length names → n ≡ get_or names 0 n
    → Changes n (take (length names - 1) (drop 1 names)) t (pairs_of (pieces_of k)) (pairs_of (pieces_of m)) → (q : List (List ℕ))
    → finite.get (map_of m) q ≡ set_look names t (finite.get v) q
node_set k m v names n t view own h some is c q =
    let rest = take (length names - 1) (drop 1 names) in
    let sets : Sets n rest t (pairs_of (pieces_of k)) (pairs_of (pieces_of m)) = sets_changed n rest t _ _ h.sorted c in
    let all : Sets n rest t (map pair_of (kids_of k)) (map pair_of (kids_of m)) =
    subst (λ es. Sets n rest t es (map pair_of (kids_of m))) (sym (pairs_kids (pieces_of k)))
    (subst (Sets n rest t (pairs_of (pieces_of k))) (sym (pairs_kids (pieces_of m))) sets) in
    dir_set k m n rest t own (sorted_kids (pieces_of k) h) all q
    ∙ (λ i. set_look (sym (split_names names n some is) i) t (finite.get (view i)) q)

-- two equal results that succeed have the same value
pub same_Ok : {X : Type 0} (x y : X) → ◌≡◌ {A = Result X TreeFault} (Ok x) (Ok y) → x ≡ y
same_Ok x y e = cc

-- a fact of the value that a call returns, if it returns one, yields what follows from it
pub if_ok : {A E : Type 0} {P Q : A → Type 0} (r : Result A E) → ((x : A) → P x → Q x) → IfOk r P → IfOk r Q
if_ok (Ok x) f h = f x h
if_ok (Err e) f h = tt

-- the first i names, and then the next one before more names, are the first i + 1 before those
pub take_next : (names : List (List ℕ)) (i : ℕ) (n : List ℕ) (q : List (List ℕ)) → i < length names → n ≡ get_or names i n
    → take i names ++ n ∷ q ≡ take (i + 1) names ++ q
take_next names i n q lt is = go names i lt is ∙ ap (λ j. take j names ++ q) (sym (add-one i))
  where
    go : (names : List (List ℕ)) (i : ℕ) → i < length names → n ≡ get_or names i n → take i names ++ n ∷ q ≡ take (suc i) names ++ q
    go [] i lt is = absurd (omega arith)
    go (m ∷ names) zero lt is = ap (λ x. x ∷ q) is
    go (m ∷ names) (suc i) lt is = ap (λ xs. m ∷ xs) (go names i (omega arith) is)
