-- What a place says of the children of a directory, and that a binary search finds it.
use Rattle.std.proofs.Common.{◌≡◌, ℕ, suc, ◌<◌, ◌≤◌, List, [], ◌∷◌, length, get_or, set, map, Result, Ok, Err, Some, None, cond, refl, sym}
use Rattle.std.proofs.Common.{ap, subst, ◌∙◌, arith, add-one}
use Rattle.std.specs.declared.cmp.Ordering.{Ordering}
use Rattle.std.specs.declared.cmp.Ordering.TheVariants.{Less, Equal, Greater}
use Rattle.std.specs.List.{insert}
use Rattle.std.specs.Ordering.{is_eq}
use Rattle.std.specs.FinMap as finite
use Rattle.std.specs.FinMap.Entries.{by_order}
use Rattle.llb_tree.proofs.EntryOrder.{below_first, find_below, and_first, and_second}
use Rattle.llb_tree.specs.Nodes.{name_of, place, later, pair_of, AreSorted}
use Rattle.llb_tree.specs.declared.node.Child.{Child}
use Rattle.llb_tree.specs.Path.{name_cmp}
use Rattle.std.specs.Cmp.Lexicographic.{nat_list_cmp_total}

-- a place that is found and counted one further on is one more than the place that was found
pub later_Ok : (r : Result ℕ ℕ) (i : ℕ) → later r ≡ Ok i → (j : ℕ) × (r ≡ Ok j) × (suc j ≡ i)
later_Ok (Ok j) i e = (j, refl, sym (add-one j) ∙ cc)
later_Ok (Err j) i e = absurd (cc)

later_Err : (r : Result ℕ ℕ) (i : ℕ) → later r ≡ Err i → (j : ℕ) × (r ≡ Err j) × (suc j ≡ i)
later_Err (Ok j) i e = absurd (cc)
later_Err (Err j) i e = (j, refl, sym (add-one j) ∙ cc)

-- a row at the place, and what is found there
pub record IsFound (p : List ℕ) (rows : List Child) (i : ℕ) : Type 0 where
  pub in_range : i < length rows
  pub found : (d : Child) → finite.find name_cmp p (map pair_of rows) ≡ Some (get_or rows i d).node
  pub written : (d : Child) (r : Child) → (name_of r) ≡ (name_of (get_or rows i d))
      → map pair_of (set rows i r) ≡ finite.put name_cmp p (r.node) (map pair_of rows)

-- where a place is found for a name, the child of that name is there, and writing it anew puts it under the name
pub is_found : (p : List ℕ) (rows : List Child) (i : ℕ) → place p rows ≡ Ok i → IsFound p rows i
is_found p [] i e = absurd (cc)
is_found p (r ∷ rows) i e = by_cmp (λ j e. is_found p rows j e) (name_cmp p (name_of r)) refl e
  where
    by_cmp : ((j : ℕ) → place p rows ≡ Ok j → IsFound p rows j) → (o : Ordering) → name_cmp p (name_of r) ≡ o
        → by_order o (Err 0) (Ok 0) (later (place p rows)) ≡ Ok i → IsFound p (r ∷ rows) i
    by_cmp rests Less is e = absurd (cc)
    by_cmp rests Equal is e =
        let at : 0 ≡ i = cc in
        subst (IsFound p (r ∷ rows)) at (record {
          in_range = omega arith;
          found = λ d. ap (λ o. cond (is_eq o) (Some (r.node)) (finite.find name_cmp p (map pair_of rows))) is;
          written = λ d q same. ap (λ k. (k, q.node) ∷ map pair_of rows) same
              ∙ sym (ap (λ o. by_order o ((p, q.node) ∷ map pair_of (r ∷ rows)) (((name_of r), q.node) ∷ map pair_of rows)
              (pair_of r ∷ finite.put name_cmp p (q.node) (map pair_of rows))) is);
        })
    by_cmp rests Greater is e =
        let below = later_Ok (place p rows) i e in
        let rest = rests below.0 below.1 in
        subst (IsFound p (r ∷ rows)) below.2 (record {
          in_range = omega (arith, rest.in_range);
          found = λ d. ap (λ o. cond (is_eq o) (Some (r.node)) (finite.find name_cmp p (map pair_of rows))) is ∙ rest.found d;
          written = λ d q same. ap (λ es. pair_of r ∷ es) (rest.written d q same)
              ∙ sym (ap (λ o. by_order o ((p, q.node) ∷ map pair_of (r ∷ rows)) (((name_of r), q.node) ∷ map pair_of rows)
              (pair_of r ∷ finite.put name_cmp p (q.node) (map pair_of rows))) is);
        })

pub record IsGap (p : List ℕ) (rows : List Child) (i : ℕ) : Type 0 where
  pub in_range : i ≤ length rows
  pub none : AreSorted rows → finite.find name_cmp p (map pair_of rows) ≡ None
  pub written : (r : Child) → (name_of r) ≡ p → map pair_of (insert rows i r) ≡ finite.put name_cmp p (r.node) (map pair_of rows)

-- where a name would only go to a place, no child in order has it, and a child inserted there is put under the name
pub is_gap : (p : List ℕ) (rows : List Child) (i : ℕ) → place p rows ≡ Err i → IsGap p rows i
is_gap p [] i e =
    let at : 0 ≡ i = cc in
    subst (IsGap p []) at (record { in_range = omega arith; none = λ _. refl; written = λ q same. ap (λ k. (k, q.node) ∷ []) same })
is_gap p (r ∷ rows) i e = by_cmp (λ j e. is_gap p rows j e) (name_cmp p (name_of r)) refl e
  where
    by_cmp : ((j : ℕ) → place p rows ≡ Err j → IsGap p rows j) → (o : Ordering) → name_cmp p (name_of r) ≡ o
        → by_order o (Err 0) (Ok 0) (later (place p rows)) ≡ Err i → IsGap p (r ∷ rows) i
    by_cmp rests Less is e =
        let at : 0 ≡ i = cc in
        subst (IsGap p (r ∷ rows)) at (record {
          in_range = omega arith;
          none = λ h. ap (λ o. cond (is_eq o) (Some (r.node)) (finite.find name_cmp p (map pair_of rows))) is
              ∙ find_below name_cmp p (map pair_of rows) (below_first nat_list_cmp_total p (name_of r) (map pair_of rows) is (and_first _ _ h));
          written = λ q same. ap (λ k. (k, q.node) ∷ map pair_of (r ∷ rows)) same
              ∙ sym (ap (λ o. by_order o ((p, q.node) ∷ map pair_of (r ∷ rows)) (((name_of r), q.node) ∷ map pair_of rows)
              (pair_of r ∷ finite.put name_cmp p (q.node) (map pair_of rows))) is);
        })
    by_cmp rests Equal is e = absurd (cc)
    by_cmp rests Greater is e =
        let below = later_Err (place p rows) i e in
        let rest = rests below.0 below.1 in
        subst (IsGap p (r ∷ rows)) below.2 (record {
          in_range = omega (arith, rest.in_range);
          none = λ h. ap (λ o. cond (is_eq o) (Some (r.node)) (finite.find name_cmp p (map pair_of rows))) is ∙ rest.none (and_second _ _ h);
          written = λ q same. ap (λ es. pair_of r ∷ es) (rest.written q same)
              ∙ sym (ap (λ o. by_order o ((p, q.node) ∷ map pair_of (r ∷ rows)) (((name_of r), q.node) ∷ map pair_of rows)
              (pair_of r ∷ finite.put name_cmp p (q.node) (map pair_of rows))) is);
        })
