-- Children in the order of their names, about a name: those whose names are below it, and those whose names are above it.
use Rattle.std.proofs.Common.{◌≡◌, ℕ, List, [], ◌∷◌, ◌++◌, true, false, Option, Some, None, cond, not, T, refl, sym, ap, ◌∙◌}
use Rattle.std.specs.declared.cmp.Ordering.{Ordering}
use Rattle.std.specs.declared.cmp.Ordering.TheVariants.{Less, Equal, Greater}
use Rattle.std.specs.Ordering.{is_gt, is_eq, eq_by_cmp, ordering_reverse}
use Rattle.std.specs.Cmp.Lexicographic.{nat_list_cmp_total}
use Rattle.std.specs.FinMap.Entries.{by_order, find, put, is_sorted, is_sorted-put, is_sorted-where_key, below_all}
use Rattle.llb_tree.specs.Path.{name_cmp}
use Rattle.llb_tree.specs.PathOrder.{name_cmp-IsAntisymmetric}
use Rattle.llb_tree.specs.Tree.{TreeMap}
use Rattle.llb_tree.specs.Nodes.{Pairs}
use Rattle.llb_tree.specs.ChildPieces.{without, change}
use Rattle.llb_tree.proofs.EntryOrder.{is_less, less_is, below_first, find_below, and_first, and_second, and_both}

abbrev pub InOrder : Pairs → Type 0
InOrder es = T (is_sorted name_cmp es)

-- each name is below n
abbrev pub AllUnder : List ℕ → Pairs → Type 0
AllUnder n [] = Unit {0}
AllUnder n (e ∷ es) = (name_cmp n e.0 ≡ Greater) × AllUnder n es

-- each name is above n
abbrev pub AllOver : List ℕ → Pairs → Type 0
AllOver n es = T (below_all name_cmp n es)

pub turned : (p q : List ℕ) (o : Ordering) → name_cmp p q ≡ o → name_cmp q p ≡ ordering_reverse o
turned p q o is = nat_list_cmp_total.antisymm q p ∙ ap ordering_reverse is

over_left : (n : List ℕ) (xs ys : Pairs) → AllOver n (xs ++ ys) → AllOver n xs
over_left n [] ys h = tt
over_left n (x ∷ xs) ys h = and_both _ _ (and_first _ _ h) (over_left n xs ys (and_second _ _ h))

over_right : (n : List ℕ) (xs ys : Pairs) → AllOver n (xs ++ ys) → AllOver n ys
over_right n [] ys h = h
over_right n (x ∷ xs) ys h = over_right n xs ys (and_second _ _ h)

-- what is in order is so before and after any place
pub sorted_left : (xs ys : Pairs) → InOrder (xs ++ ys) → InOrder xs
sorted_left [] ys h = tt
sorted_left (x ∷ xs) ys h = and_both _ _ (over_left x.0 xs ys (and_first _ _ h)) (sorted_left xs ys (and_second _ _ h))

pub sorted_right : (xs ys : Pairs) → InOrder (xs ++ ys) → InOrder ys
sorted_right [] ys h = h
sorted_right (x ∷ xs) ys h = sorted_right xs ys (and_second _ _ h)

-- what is before a child whose name is not after n is below n
pub under_before : (n : List ℕ) (xs : Pairs) (e : List ℕ × TreeMap) (ys : Pairs) → InOrder (xs ++ e ∷ ys) → is_gt (name_cmp e.0 n) ≡ false → AllUnder n xs
under_before n [] e ys h low_end = tt
under_before n (x ∷ xs) e ys h low_end =
    let low : name_cmp x.0 e.0 ≡ Less = is_less _ (and_first _ _ (over_right x.0 xs (e ∷ ys) (and_first _ _ h))) in
    (turned x.0 n Less (at (name_cmp e.0 n) refl low_end low), under_before n xs e ys (and_second _ _ h) low_end)
  where
    at : (o : Ordering) → name_cmp e.0 n ≡ o → is_gt o ≡ false → name_cmp x.0 e.0 ≡ Less → name_cmp x.0 n ≡ Less
    at Less is low_end low = nat_list_cmp_total.trans x.0 e.0 n low is
    at Equal is low_end low = ap (name_cmp x.0) (sym (name_cmp-IsAntisymmetric e.0 n is)) ∙ low
    at Greater is low_end low = absurd cc

-- a child whose name is after n is above n, and so are those after it
pub over_after : (n : List ℕ) (e : List ℕ × TreeMap) (ys : Pairs) → InOrder (e ∷ ys) → is_gt (name_cmp e.0 n) ≡ true → AllOver n (e ∷ ys)
over_after n e ys h beyond =
    let low : name_cmp n e.0 ≡ Less = at (name_cmp e.0 n) refl beyond in
    and_both _ _ (less_is _ low) (below_first nat_list_cmp_total n e.0 ys low (and_first _ _ h))
  where
    at : (o : Ordering) → name_cmp e.0 n ≡ o → is_gt o ≡ true → name_cmp n e.0 ≡ Less
    at Less is beyond = absurd cc
    at Equal is beyond = absurd cc
    at Greater is beyond = turned e.0 n Greater is

-- children below a name, and children above it, are passed over
pub find_under : (n : List ℕ) (xs ys : Pairs) → AllUnder n xs → find name_cmp n (xs ++ ys) ≡ find name_cmp n ys
find_under n [] ys h = refl
find_under n (x ∷ xs) ys h = ap (λ o. cond (is_eq o) (Some x.1) (find name_cmp n (xs ++ ys))) h.0 ∙ find_under n xs ys h.1

pub find_within : (n : List ℕ) (xs ys : Pairs) → AllOver n ys → find name_cmp n (xs ++ ys) ≡ find name_cmp n xs
find_within n [] ys h = find_below name_cmp n ys h
find_within n (x ∷ xs) ys h = ap (cond (eq_by_cmp name_cmp n x.0) (Some x.1)) (find_within n xs ys h)

put_under : (n : List ℕ) (t : TreeMap) (xs ys : Pairs) → AllUnder n xs → put name_cmp n t (xs ++ ys) ≡ xs ++ put name_cmp n t ys
put_under n t [] ys h = refl
put_under n t (x ∷ xs) ys h = ap (λ o. by_order o ((n, t) ∷ x ∷ (xs ++ ys)) ((x.0, t) ∷ (xs ++ ys)) (x ∷ put name_cmp n t (xs ++ ys))) h.0
    ∙ ap (λ es. x ∷ es) (put_under n t xs ys h.1)

put_over : (n : List ℕ) (t : TreeMap) (ys : Pairs) → AllOver n ys → put name_cmp n t ys ≡ (n, t) ∷ ys
put_over n t [] h = refl
put_over n t (y ∷ ys) h = ap (λ o. by_order o ((n, t) ∷ y ∷ ys) ((y.0, t) ∷ ys) (y ∷ put name_cmp n t ys)) (is_less _ (and_first _ _ h))

put_within : (n : List ℕ) (t : TreeMap) (xs ys : Pairs) → AllOver n ys → put name_cmp n t (xs ++ ys) ≡ put name_cmp n t xs ++ ys
put_within n t [] ys h = put_over n t ys h
put_within n t (x ∷ xs) ys h =
    elim (name_cmp n x.0) as (λ o. by_order o ((n, t) ∷ x ∷ (xs ++ ys)) ((x.0, t) ∷ (xs ++ ys)) (x ∷ put name_cmp n t (xs ++ ys))
    ≡ by_order o ((n, t) ∷ x ∷ xs) ((x.0, t) ∷ xs) (x ∷ put name_cmp n t xs) ++ ys) [
      | Less ↦ refl
      | Equal ↦ refl
      | Greater ↦ ap (λ es. x ∷ es) (put_within n t xs ys h)
    ]

keeps : (n : List ℕ) (x : List ℕ × TreeMap) (xs : Pairs) → eq_by_cmp name_cmp n x.0 ≡ false → without n (x ∷ xs) ≡ x ∷ without n xs
keeps n x xs e = ap (λ b. cond (not b) (x ∷ without n xs) (without n xs)) e

without_under : (n : List ℕ) (xs ys : Pairs) → AllUnder n xs → without n (xs ++ ys) ≡ xs ++ without n ys
without_under n [] ys h = refl
without_under n (x ∷ xs) ys h = keeps n x (xs ++ ys) (ap is_eq h.0) ∙ ap (λ es. x ∷ es) (without_under n xs ys h.1)

without_over : (n : List ℕ) (ys : Pairs) → AllOver n ys → without n ys ≡ ys
without_over n [] h = refl
without_over n (y ∷ ys) h = keeps n y ys (ap is_eq (is_less _ (and_first _ _ h))) ∙ ap (λ es. y ∷ es) (without_over n ys (and_second _ _ h))

without_within : (n : List ℕ) (xs ys : Pairs) → AllOver n ys → without n (xs ++ ys) ≡ without n xs ++ ys
without_within n [] ys h = without_over n ys h
without_within n (x ∷ xs) ys h =
    elim (eq_by_cmp name_cmp n x.0) as (λ b. cond (not b) (x ∷ without n (xs ++ ys)) (without n (xs ++ ys))
    ≡ cond (not b) (x ∷ without n xs) (without n xs) ++ ys) [
      | true ↦ without_within n xs ys h
      | false ↦ ap (λ es. x ∷ es) (without_within n xs ys h)
    ]

pub change_under : (n : List ℕ) (o : Option TreeMap) (xs ys : Pairs) → AllUnder n xs → change n o (xs ++ ys) ≡ xs ++ change n o ys
change_under n (Some t) xs ys h = put_under n t xs ys h
change_under n None xs ys h = without_under n xs ys h

pub change_within : (n : List ℕ) (o : Option TreeMap) (xs ys : Pairs) → AllOver n ys → change n o (xs ++ ys) ≡ change n o xs ++ ys
change_within n (Some t) xs ys h = put_within n t xs ys h
change_within n None xs ys h = without_within n xs ys h

-- what is changed stays in order
pub sorted_change : (n : List ℕ) (o : Option TreeMap) (es : Pairs) → InOrder es → InOrder (change n o es)
sorted_change n (Some t) es h = is_sorted-put name_cmp nat_list_cmp_total n t es h
sorted_change n None es h = is_sorted-where_key name_cmp (λ m. not (eq_by_cmp name_cmp n m)) es h
