-- A list by number: each item is the next one after those before it.
use Rattle.std.proofs.Common.{◌≡◌, ℕ, zero, suc, ◌+◌, List, [], ◌∷◌, ◌++◌, length, take, Some, sym, ap, subst, ◌∙◌, add-zero, append_assoc, arith}
use Rattle.std.specs.Prelude.{slice_get}
use Rattle.std.proofs.lemmas.List.{append-nil, length-append}
use Rattle.std.proofs.Math.Seq.{take-append_seam}
use Rattle.llb_model.specs.ListsFromEarlierItems.{by_number}
use Rattle.llb_model.proofs.Lists.{some_of, get_middle}

module _ {A B : Type 0} (next : List B → A → B) where
  grows : (before : List B) (xs : List A) → (more : List B) × (by_number next before xs ≡ before ++ more)
  grows before [] = ([], sym (append-nil before))
  grows before (x ∷ xs) =
      let g = grows (before ++ next before x ∷ []) xs in
      (next before x ∷ g.0, g.1 ∙ append_assoc before (next before x ∷ []) g.0)

  Next : List B → ℕ → A → Type 0
  Next items k x = slice_get items k ≡ Some (next (take k items) x)

  next_here : (before more items : List B) (x : A) → items ≡ before ++ (next before x ∷ more) → Next items (length before) x
  unfolding Next
  next_here before more items x e =
      let front : take (length before) items ≡ before = ap (take (length before)) e ∙ take-append_seam before (next before x ∷ more) in
      ap (λ ys. slice_get ys (length before)) e ∙ get_middle before (next before x) more ∙ ap (λ ys. some_of (next ys x)) (sym front)

  next_at : (before : List B) (xs : List A) (k : ℕ) (x : A) → slice_get xs k ≡ Some x → Next (by_number next before xs) (length before + k) x
  next_at before [] k x there = absurd cc
  next_at before (y ∷ xs) zero x there =
      let same : y ≡ x = cc in
      let g = grows (before ++ next before y ∷ []) xs in
      subst (λ n. Next (by_number next before (y ∷ xs)) n x) (sym (add-zero (length before)))
      (subst (λ z. Next (by_number next before (y ∷ xs)) (length before) z) same
      (next_here before g.0 (by_number next before (y ∷ xs)) y (g.1 ∙ append_assoc before (next before y ∷ []) g.0)))
  next_at before (y ∷ xs) (suc k) x there =
      let place : length (before ++ next before y ∷ []) + k ≡ length before + suc k = omega (arith, length-append before (next before y ∷ [])) in
      subst (λ n. Next (by_number next (before ++ next before y ∷ []) xs) n x) place (next_at (before ++ next before y ∷ []) xs k x there)

  -- each result is worked out from the results before it and the member of its own number
  pub by_number_is : (xs : List A) (k : ℕ) (x : A) → slice_get xs k ≡ Some x
      → slice_get (by_number next [] xs) k ≡ Some (next (take k (by_number next [] xs)) x)
  unfolding Next
  by_number_is xs k x there = subst (λ n. Next (by_number next [] xs) n x) (zero_add k) (next_at [] xs k x there)
    where
      zero_add : (n : ℕ) → 0 + n ≡ n
      zero_add n = omega arith

  longer : (before : List B) (xs : List A) → length (by_number next before xs) ≡ length before + length xs
  longer before [] = sym (add-zero (length before))
  longer before (x ∷ xs) = longer (before ++ next before x ∷ []) xs ∙ omega (arith, length-append before (next before x ∷ []))

  -- there is one result for each member
  pub by_number_length : (xs : List A) → length (by_number next [] xs) ≡ length xs
  by_number_length xs = longer [] xs ∙ omega arith
