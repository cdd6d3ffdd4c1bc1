-- Places that are tried before a search: one that was guessed, and the end.
use Rattle.std.proofs.Common.{◌≡◌, ℕ, zero, suc, ◌<◌, List, [], ◌∷◌, ◌++◌, length, map, take, drop, get_or}
use Rattle.std.proofs.Common.{◌≤◌, cond, Some, Ok, Err, refl, sym, ap, subst, ◌∙◌, arith, add-one}
use Rattle.std.specs.declared.cmp.Ordering.TheVariants.{Less}
use Rattle.std.proofs.lemmas.List.Elements.{Contains-append_left, Contains-append_right}
use Rattle.std.specs.List.{Contains}
use Rattle.std.specs.Ordering.{is_eq, is_gt}
use Rattle.std.specs.Cmp.{tied_itself}
use Rattle.std.specs.Cmp.Lexicographic.{nat_list_cmp_total}
use Rattle.std.specs.FinMap.Entries.{by_order, find}
use Rattle.llb_tree.specs.Path.{name_cmp}
use Rattle.llb_tree.specs.Nodes.{AreSorted, Pairs, name_of, pair_of, child, rows_in, kids_in, place, later}
use Rattle.llb_tree.specs.declared.node.Child.{Child}
use Rattle.llb_tree.specs.declared.node.Piece.{Piece}
use Rattle.llb_tree.proofs.ChildrenAroundName.{InOrder, AllUnder, under_before, find_under, turned}

-- a child in one of the pieces is one of all
pub row_within : (ps : List Piece) (p : Piece) (k : Child) → Contains ps p → Contains (rows_in p) k → Contains (kids_in ps) k
row_within [] p k (j, lt, is) there = absurd (omega arith)
row_within (q ∷ ps) p k (zero, lt, is) there =
    Contains-append_left (rows_in q) (kids_in ps) k (subst (λ (x : Piece). Contains (rows_in x) k) (sym is) there)
row_within (q ∷ ps) p k (suc j, lt, is) there =
    Contains-append_right (rows_in q) (kids_in ps) k (row_within ps p k (j, omega arith, is) there)

parted : (ks : List Child) (i : ℕ) (k : Child) → i < length ks → get_or ks i k ≡ k
    → map pair_of ks ≡ map pair_of (take i ks) ++ pair_of k ∷ map pair_of (drop (suc i) ks)
parted [] i k lt is = absurd (omega arith)
parted (x ∷ ks) zero k lt is = ap (λ (y : Child). pair_of y ∷ map pair_of ks) is
parted (x ∷ ks) (suc i) k lt is = ap (λ es. pair_of x ∷ es) (parted ks i k (omega arith) is)

-- a child of a name among children in order is the child of that name
pub named_here : (n : List ℕ) (ks : List Child) (k : Child) → AreSorted ks → Contains ks k → name_of k ≡ n → Some k.node ≡ child n ks
named_here n ks k sorted (i, lt, is) named =
    let split = parted ks i k lt is in
    let same = ap (λ m. name_cmp m n) named ∙ tied_itself nat_list_cmp_total n in
    let below = under_before n (map pair_of (take i ks)) (pair_of k) (map pair_of (drop (suc i) ks)) (subst InOrder split sorted) (ap is_gt same) in
    sym (ap (find name_cmp n) split ∙ find_under n (map pair_of (take i ks)) (pair_of k ∷ map pair_of (drop (suc i) ks)) below
    ∙ ap (λ o. cond (is_eq o) (Some k.node) (find name_cmp n (map pair_of (drop (suc i) ks))))
    (ap (name_cmp n) named ∙ tied_itself nat_list_cmp_total n))

-- ---- a name after all

under_append : (n : List ℕ) (xs ys : Pairs) → AllUnder n xs → AllUnder n ys → AllUnder n (xs ++ ys)
under_append n [] ys h g = g
under_append n (x ∷ xs) ys h g = (h.0, under_append n xs ys h.1 g)

none_after : (ks : List Child) (i : ℕ) → length ks ≤ suc i → map pair_of (drop (suc i) ks) ≡ []
none_after [] i le = refl
none_after (x ∷ []) zero le = refl
none_after (x ∷ y ∷ ks) zero le = absurd (omega arith)
none_after (x ∷ ks) (suc i) le = none_after ks i (omega arith)

place_under : (n : List ℕ) (ks : List Child) → AllUnder n (map pair_of ks) → place n ks ≡ Err (length ks)
place_under n [] h = refl
place_under n (k ∷ ks) h = ap (λ o. by_order o (Err 0) (Ok 0) (later (place n ks))) h.0 ∙ ap later (place_under n ks h.1) ∙ ap Err (add-one (length ks))

-- a name that is after the last child's goes after all
pub place_past : (n : List ℕ) (ks : List Child) (i : ℕ) (k : Child) → AreSorted ks → i < length ks → length ks ≤ suc i → k ≡ get_or ks i k
    → name_cmp (name_of k) n ≡ Less → Err (length ks) ≡ place n ks
place_past n ks i k sorted lt le is below =
    let front = map pair_of (take i ks) in
    let split = parted ks i k lt (sym is) ∙ ap (λ es. front ++ pair_of k ∷ es) (none_after ks i le) in
    let under = under_before n front (pair_of k) [] (subst InOrder split sorted) (ap is_gt below) in
    sym (place_under n ks (subst (AllUnder n) (sym split) (under_append n front (pair_of k ∷ []) under (turned (name_of k) n Less below, tt))))
