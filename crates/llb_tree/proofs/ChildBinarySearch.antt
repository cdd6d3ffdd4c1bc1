-- A binary search over the children of a directory finds the place of a name: the place is where the search says, and the
-- children are in the order that the search asks for.
use Rattle.std.proofs.Common.{◌≡◌, ℕ, zero, suc, ◌<◌, ◌≤◌, List, [], ◌∷◌, length, get_or, map, Result, Ok, Err, T, sym, ap, ◌∙◌, arith, add-one}
use Rattle.std.specs.declared.cmp.Ordering.TheVariants.{Less, Equal, Greater}
use Rattle.std.specs.List.{AllWithin}
use Rattle.std.specs.List.Sorted.{IsNonDecreasingBy, IsBinarySearchResult, IsSearchInRange}
use Rattle.std.specs.Ordering.{is_lt, ordering_index}
use Rattle.std.specs.FinMap.Entries.{by_order, below_all}
use Rattle.std.proofs.lemmas.List.Sorted.{searchable_from_sorted}
use Rattle.llb_tree.specs.Nodes.{name_of, place, later, pair_of, AreSorted}
use Rattle.llb_tree.specs.declared.node.Child.{Child}
use Rattle.std.specs.Ordering.{ordering_reverse}
use Rattle.llb_tree.specs.Path.{name_cmp}
use Rattle.std.specs.Cmp.Lexicographic.{nat_list_cmp_total}
use Rattle.std.specs.declared.cmp.Ordering.{Ordering}
use Rattle.llb_tree.proofs.EntryOrder.{is_less, and_first, and_second}

turned : (p q : List ℕ) (o : Ordering) → name_cmp p q ≡ o → name_cmp q p ≡ ordering_reverse o
turned p q o is = nat_list_cmp_total.antisymm q p ∙ ap ordering_reverse is

-- the first row is below each later one
pub below_later : (p : List ℕ) (rows : List Child) (i : ℕ) (d : Child) → T (below_all name_cmp p (map pair_of rows)) → i < length rows
    → name_cmp p (name_of (get_or rows i d)) ≡ Less
below_later p [] i d h lt = absurd (omega arith)
below_later p (r ∷ rows) zero d h lt = is_less _ (and_first _ _ h)
below_later p (r ∷ rows) (suc i) d h lt = below_later p rows i d (and_second _ _ h) (omega arith)

later_place : (p : List ℕ) (r : Child) (rows : List Child) → name_cmp (name_of r) p ≡ Less → place p (r ∷ rows) ≡ later (place p rows)
later_place p r rows is = ap (λ o. by_order o (Err 0) (Ok 0) (later (place p rows))) (turned (name_of r) p Less is)

-- the place of a path that a row has
place_found : (p : List ℕ) (rows : List Child) (i : ℕ) → AreSorted rows → i < length rows
    → ((d : Child) → name_cmp (name_of (get_or rows i d)) p ≡ Equal) → place p rows ≡ Ok i
place_found p [] i sorted lt here = absurd (omega arith)
place_found p (r ∷ rows) zero sorted lt here = ap (λ o. by_order o (Err 0) (Ok 0) (later (place p rows))) (turned (name_of r) p Equal (here r))
place_found p (r ∷ rows) (suc i) sorted lt here =
    let row = name_of (get_or rows i r) in
    let below : name_cmp (name_of r) p ≡ Less = turned p (name_of r) Greater (sym (nat_list_cmp_total.congr row p (name_of r) (here r))
    ∙ turned (name_of r) row Less (below_later (name_of r) rows i r (and_first _ _ sorted) (omega arith))) in
    later_place p r rows below ∙ ap later (place_found p rows i (and_second _ _ sorted) (omega arith) here) ∙ ap Ok (add-one i)

-- the place of a path that no row has
place_gap : (p : List ℕ) (rows : List Child) (i : ℕ) → i ≤ length rows → AllWithin (λ (r : Child). name_cmp (name_of r) p ≡ Less) rows 0 i
    → AllWithin (λ (r : Child). name_cmp (name_of r) p ≡ Greater) rows i (length rows) → place p rows ≡ Err i
place_gap p [] i le before after = let at : 0 ≡ i = omega arith in ap Err at
place_gap p (r ∷ rows) zero le before after = ap (λ o. by_order o (Err 0) (Ok 0) (later (place p rows)))
    (turned (name_of r) p Greater (after 0 r (omega arith) (omega arith)))
place_gap p (r ∷ rows) (suc i) le before after =
    later_place p r rows (before 0 r (omega arith) (omega arith))
    ∙ ap later (place_gap p rows i (omega arith) (λ k d low high. before (suc k) d (omega arith) (omega arith))
    (λ k d low high. after (suc k) d (omega arith) (omega arith)))
    ∙ ap Err (add-one i)

-- rows in order rise
rises : (rows : List Child) (k : ℕ) (d : Child) → AreSorted rows → suc k < length rows
    → name_cmp (name_of (get_or rows k d)) (name_of (get_or rows (suc k) d)) ≡ Less
rises [] k d sorted lt = absurd (omega arith)
rises (r ∷ rows) zero d sorted lt = below_later (name_of r) rows 0 d (and_first _ _ sorted) (omega arith)
rises (r ∷ rows) (suc k) d sorted lt = rises rows k d (and_second _ _ sorted) (omega arith)

searchable : (p : List ℕ) (rows : List Child) → AreSorted rows → IsNonDecreasingBy (λ (r : Child). ordering_index (name_cmp (name_of r) p)) rows
searchable p rows sorted = searchable_from_sorted nat_list_cmp_total (λ (r : Child). (name_of r)) rows p
    (λ k d low high. ap (λ j. is_lt (name_cmp (name_of (get_or rows j d)) (name_of (get_or rows k d)))) (add-one k)
    ∙ ap is_lt (turned (name_of (get_or rows k d)) (name_of (get_or rows (suc k) d)) Less (rises rows k d sorted (omega arith))))

-- the result of a binary search is the place
pub place_searched : (p : List ℕ) (rows : List Child) (r : Result ℕ ℕ) → AreSorted rows → IsSearchInRange r (length rows)
    → IsBinarySearchResult (λ (row : Child). name_cmp (name_of row) p) rows r → r ≡ place p rows
place_searched p rows (Ok i) sorted within is = sym (place_found p rows i sorted within is)
place_searched p rows (Err i) sorted within is = let at = is (searchable p rows sorted) in sym (place_gap p rows i within at.0 at.1)
