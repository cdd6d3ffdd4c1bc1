-- Contents and places: what a write changes, and what stays.
use Rattle.std.proofs.Common.{◌≡◌, ◌≢◌, suc, Bool, true, false, ◌||◌, List, [], ◌∷◌, ◌++◌, length, map, Option, Some, None, unwrap_or, ◌⊎◌}
use Rattle.std.proofs.Common.{inl, inr, refl, sym, ap, subst, ◌∙◌, cond, arith}
use Rattle.std.specs.declared.cmp.Ordering.{Ordering}
use Rattle.std.specs.declared.cmp.Ordering.TheVariants.{Less, Equal, Greater}
use Rattle.std.specs.Ordering.{eq_by_cmp, is_eq, nat_cmp, ordering_then}
use Rattle.std.specs.Cmp.{IsTotalOrder, Equal-is, nat_cmp_total, on_total, then_total}
use Rattle.std.proofs.lemmas.Cmp.{eq_by_cmp_equiv}
use Rattle.std.specs.FinMap as finite
use Rattle.std.specs.FinMap.{IsAntisymmetric, nat_cmp-IsAntisymmetric}
use Rattle.llb_cache.specs.KeyOrder.{key_cmp}
use Rattle.llb_cache.proofs.KeyOrder.{key_cmp-IsTotalOrder, tie_is_same}
use Rattle.llb_cache.specs.KeyEquality.{same_keys}
use Rattle.llb_tree.specs.Tree.{TreeMap, empty_tree}
use Rattle.llb_model.specs.Caches.{Instance, place_cmp, Store, content, put, put_all, trees_at, Hold, Has, Distinct, is_in}

-- ---- places

place_total : IsTotalOrder place_cmp
place_total = then_total (on_total (λ (p : Instance). p.number) nat_cmp_total) (on_total (λ (p : Instance). p.key) key_cmp-IsTotalOrder)

both_equal : (a b : Ordering) → ordering_then a b ≡ Equal → (a ≡ Equal) × (b ≡ Equal)
both_equal Equal b e = (refl, e)
both_equal Less b e = absurd (let x : Less ≡ Equal = e in cc)
both_equal Greater b e = absurd (let x : Greater ≡ Equal = e in cc)

place_antisymmetric : IsAntisymmetric place_cmp
place_antisymmetric p q e =
    let parts = both_equal (nat_cmp p.number q.number) (key_cmp p.key q.key) e in
    let number = nat_cmp-IsAntisymmetric p.number q.number parts.0 in
    let key = same_keys p.key q.key (sym (tie_is_same p.key q.key) ∙ ap is_eq parts.1) in
    (λ i. record { key = key i; number = number i })

-- places that compare as equal are the same place
pub place_test : (p q : Instance) → eq_by_cmp place_cmp p q ≡ true → p ≡ q
place_test p q e = place_antisymmetric p q ((Equal-is (place_cmp p q)).0 e)

pub place_itself : (p : Instance) → eq_by_cmp place_cmp p p ≡ true
place_itself p = (eq_by_cmp_equiv place_total).refl p

-- for any two places it is decided whether they are the same
pub place_or : (p q : Instance) → (p ≡ q) ⊎ (p ≢ q)
place_or p q = go (eq_by_cmp place_cmp p q) refl
  where
    go : (b : Bool) → eq_by_cmp place_cmp p q ≡ b → (p ≡ q) ⊎ (p ≢ q)
    go true is = inl (place_test p q is)
    go false is = inr (λ same. let h : false ≡ true = sym is ∙ ap (eq_by_cmp place_cmp p) (sym same) ∙ place_itself p in cc)

place_apart : (p q : Instance) → p ≢ q → eq_by_cmp place_cmp p q ≡ false
place_apart p q apart = go (eq_by_cmp place_cmp p q) refl
  where
    go : (b : Bool) → eq_by_cmp place_cmp p q ≡ b → b ≡ false
    go true is = absurd (apart (place_test p q is))
    go false is = refl

-- ---- one write

-- the tree that is written is at its place
pub content_same : (s : Store) (p : Instance) (t : TreeMap) → content (put s p t) p ≡ Some t
unfolding content put
content_same s p t = finite.get-insert place_total s p t p ∙ ap (λ b. cond b (Some t) (finite.get s p)) (place_itself p)

-- a write leaves what is at every other place
pub content_other : (s : Store) (p : Instance) (t : TreeMap) (q : Instance) → q ≢ p → content (put s p t) q ≡ content s q
unfolding content put
content_other s p t q apart = finite.get-insert place_total s p t q ∙ ap (λ b. cond b (Some t) (finite.get s q)) (place_apart q p apart)

-- stores that have the same at every place are the same store
pub same_store : (a b : Store) → ((p : Instance) → content a p ≡ content b p) → a ≡ b
unfolding content
same_store a b same = finite.same_map place_total place_antisymmetric a b same

pub put_put : (s : Store) (p q : Instance) (t u : TreeMap) → p ≢ q → put (put s p t) q u ≡ put (put s q u) p t
put_put s p q t u apart = same_store (put (put s p t) q u) (put (put s q u) p t) each
  where
    each : (r : Instance) → content (put (put s p t) q u) r ≡ content (put (put s q u) p t) r
    each r = elim (place_or r p) [
      | inl h ↦ subst (λ x. content (put (put s p t) q u) x ≡ content (put (put s q u) p t) x) (sym h)
          (content_other (put s p t) q u p apart ∙ content_same s p t ∙ sym (content_same (put s q u) p t))
      | inr h ↦ elim (place_or r q) [
        | inl k ↦ subst (λ x. content (put (put s p t) q u) x ≡ content (put (put s q u) p t) x) (sym k)
            (content_same (put s p t) q u ∙ sym (content_other (put s q u) p t q (λ e. apart (sym e)) ∙ content_same s q u))
        | inr k ↦ content_other (put s p t) q u r k ∙ content_other s p t r h ∙ sym (content_other (put s q u) p t r h ∙ content_other s q u r k)
      ]
    ]

-- ---- membership

-- for any place it is decided whether it is in a list
pub has_or : (ps : List Instance) (p : Instance) → Has ps p ⊎ (Has ps p → ⊥)
has_or [] p = inr (λ h. h)
has_or (q ∷ ps) p = elim (place_or p q) [
  | inl h ↦ inl (inl h)
  | inr h ↦ elim (has_or ps p) [
    | inl k ↦ inl (inr k)
    | inr k ↦ inr (λ e. elim e [ inl a ↦ h a | inr b ↦ k b ])
  ]
]

-- the test finds each place of a list
pub has_in : (ps : List Instance) (p : Instance) → Has ps p → is_in ps p ≡ true
has_in [] p h = absurd h
has_in (q ∷ ps) p (inl h) = ap (λ b. b || is_in ps p) (ap (eq_by_cmp place_cmp p) (sym h) ∙ place_itself p)
has_in (q ∷ ps) p (inr h) = go (eq_by_cmp place_cmp p q) (is_in ps p) (has_in ps p h)
  where
    go : (a b : Bool) → b ≡ true → (a || b) ≡ true
    go true b e = refl
    go false b e = e

-- what is in a list is in it with more after it
pub has_left : {A : Type 0} (xs ys : List A) (x : A) → Has xs x → Has (xs ++ ys) x
has_left [] ys x h = absurd h
has_left (a ∷ xs) ys x (inl h) = inl h
has_left (a ∷ xs) ys x (inr h) = inr (has_left xs ys x h)

-- what is in a list is in it with more before it
pub has_right : {A : Type 0} (xs ys : List A) (x : A) → Has ys x → Has (xs ++ ys) x
has_right [] ys x h = h
has_right (a ∷ xs) ys x h = inr (has_right xs ys x h)

-- what is in a list of results is the result of some item
pub has_map : {A B : Type 0} (f : A → B) (xs : List A) (y : B) → Has (map f xs) y → (x : A) × Has xs x × (y ≡ f x)
has_map f [] y h = absurd h
has_map f (x ∷ xs) y (inl h) = (x, inl refl, h)
has_map f (x ∷ xs) y (inr h) = let r = has_map f xs y h in (r.0, inr r.1, r.2)

pub mapped_has : {A B : Type 0} (f : A → B) (xs : List A) (x : A) → Has xs x → Has (map f xs) (f x)
mapped_has f [] x h = absurd h
mapped_has f (a ∷ xs) x (inl h) = inl (ap f h)
mapped_has f (a ∷ xs) x (inr h) = inr (mapped_has f xs x h)

-- ---- writes at several places

-- writes at several places leave what is at any that is not among them
pub kept_all : (s : Store) (ps : List Instance) (ts : List TreeMap) (q : Instance) → (Has ps q → ⊥) → content (put_all s ps ts) q ≡ content s q
kept_all s [] ts q apart = refl
kept_all s (p ∷ ps) [] q apart = refl
kept_all s (p ∷ ps) (t ∷ ts) q apart = kept_all (put s p t) ps ts q (λ h. apart (inr h)) ∙ content_other s p t q (λ e. apart (inl e))

-- trees that are at places are there in every store that has the same at these places
pub hold_moved : (s r : Store) (ps : List Instance) (ts : List TreeMap) → Hold s ps ts → ((p : Instance) → Has ps p → content r p ≡ content s p) → Hold r ps ts
hold_moved s r [] [] hold same = tt
hold_moved s r [] (t ∷ ts) hold same = absurd hold
hold_moved s r (p ∷ ps) [] hold same = absurd hold
hold_moved s r (p ∷ ps) (t ∷ ts) hold same = (same p (inl refl) ∙ hold.0, hold_moved s r ps ts hold.1 (λ q h. same q (inr h)))

-- after writes at places that differ, each has the tree that was written to it
pub hold_all : (s : Store) (ps : List Instance) (ts : List TreeMap) → Distinct ps → length ts ≡ length ps → Hold (put_all s ps ts) ps ts
hold_all s [] [] apart len = tt
hold_all s [] (t ∷ ts) apart len = absurd (omega (arith, len))
hold_all s (p ∷ ps) [] apart len = absurd (omega (arith, len))
hold_all s (p ∷ ps) (t ∷ ts) apart len =
    (kept_all (put s p t) ps ts p apart.0 ∙ content_same s p t, hold_all (put s p t) ps ts apart.1 (omega (arith, len)))

-- trees that are at places are the ones that are read there
pub hold_trees : (s : Store) (ps : List Instance) (ts : List TreeMap) → Hold s ps ts → trees_at s ps ≡ ts
hold_trees s [] [] hold = refl
hold_trees s [] (t ∷ ts) hold = absurd hold
hold_trees s (p ∷ ps) [] hold = absurd hold
hold_trees s (p ∷ ps) (t ∷ ts) hold =
    ap (λ o. unwrap_or o empty_tree ∷ trees_at s ps) hold.0 ∙ ap (λ us. t ∷ us) (hold_trees s ps ts hold.1)

-- where there are trees at places, there is one for each
pub hold_length : (s : Store) (ps : List Instance) (ts : List TreeMap) → Hold s ps ts → length ts ≡ length ps
hold_length s [] [] hold = refl
hold_length s [] (t ∷ ts) hold = absurd hold
hold_length s (p ∷ ps) [] hold = absurd hold
hold_length s (p ∷ ps) (t ∷ ts) hold = ap suc (hold_length s ps ts hold.1)

-- two stores that have the same trees at places have the same at each of them
pub hold_same : (s r : Store) (ps : List Instance) (ts : List TreeMap) → Hold s ps ts → Hold r ps ts → (p : Instance) → Has ps p → content s p ≡ content r p
hold_same s r [] ts a b p h = absurd h
hold_same s r (q ∷ ps) [] a b p h = absurd a
hold_same s r (q ∷ ps) (t ∷ ts) a b p (inl h) = ap (content s) h ∙ a.0 ∙ sym b.0 ∙ ap (content r) (sym h)
hold_same s r (q ∷ ps) (t ∷ ts) a b p (inr h) = hold_same s r ps ts a.1 b.1 p h

-- a write at a place that is not among others may come after theirs
pub put_all_put : (s : Store) (p : Instance) (t : TreeMap) (ps : List Instance) (ts : List TreeMap) → (Has ps p → ⊥)
    → put_all (put s p t) ps ts ≡ put (put_all s ps ts) p t
put_all_put s p t [] ts apart = refl
put_all_put s p t (q ∷ ps) [] apart = refl
put_all_put s p t (q ∷ ps) (u ∷ ts) apart =
    ap (λ r. put_all r ps ts) (put_put s p q t u (λ e. apart (inl e))) ∙ put_all_put (put s q u) p t ps ts (λ h. apart (inr h))

-- stores that have the same at some places show the same trees there
pub trees_same : (s r : Store) (ps : List Instance) → ((p : Instance) → Has ps p → content r p ≡ content s p) → trees_at r ps ≡ trees_at s ps
trees_same s r [] same = refl
trees_same s r (p ∷ ps) same =
    ap (λ o. unwrap_or o empty_tree ∷ trees_at r ps) (same p (inl refl))
    ∙ ap (λ us. unwrap_or (content s p) empty_tree ∷ us) (trees_same s r ps (λ q h. same q (inr h)))

-- where there was a tree at a place there still is, this or another one
pub put_holds : (s : Store) (ps : List Instance) (ts : List TreeMap) (qs : List Instance) (us : List TreeMap) → Hold s qs us
    → (vs : List TreeMap) × Hold (put_all s ps ts) qs vs
put_holds s [] ts qs us hold = (us, hold)
put_holds s (p ∷ ps) [] qs us hold = (us, hold)
put_holds s (p ∷ ps) (t ∷ ts) qs us hold = let h = one s p t qs us hold in put_holds (put s p t) ps ts qs h.0 h.1
  where
    one : (s : Store) (p : Instance) (t : TreeMap) (qs : List Instance) (us : List TreeMap) → Hold s qs us → (vs : List TreeMap) × Hold (put s p t) qs vs
    one s p t [] [] hold = ([], tt)
    one s p t [] (u ∷ us) hold = absurd hold
    one s p t (q ∷ qs) [] hold = absurd hold
    one s p t (q ∷ qs) (u ∷ us) hold =
        let rest = one s p t qs us hold.1 in
        elim (place_or q p) [
          | inl h ↦ (t ∷ rest.0, (ap (content (put s p t)) h ∙ content_same s p t, rest.1))
          | inr h ↦ (u ∷ rest.0, (content_other s p t q h ∙ hold.0, rest.1))
        ]
