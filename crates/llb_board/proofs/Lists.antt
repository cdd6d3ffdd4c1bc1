-- Lists of equal items, and lists that are changed at a place.
use Rattle.std.proofs.Common.{◌≡◌, ℕ, zero, suc, ◌+◌, ◌-◌, ◌<◌, ◌≤◌, List, [], ◌∷◌, ◌++◌, map, take, length, inl, inr, refl, ap, sym, ◌∙◌, arith, add-one}
use Rattle.std.proofs.Common.{length-append}
use Rattle.std.proofs.Math.Seq.{take-suc, take-append_seam}
use Rattle.std.proofs.lemmas.List.{map-append, length-take-le}
use Rattle.llb_model.specs.Caches.{Has}
use Rattle.std.specs.Prelude.{Some, replicate, slice_get, slice_set, option_map}
use Rattle.std.proofs.lemmas.Option.{slice_get-map, slice_get_within, get_or_from_slice_get}
use Rattle.llb_model.proofs.Lists.{length_map}

-- n equal items, and room for more
pub record Replicated {A : Type 0} (x : A) (n : ℕ) (xs : List A) (last capacity : ℕ) : Type 0 where
  pub all : xs ≡ replicate n x
  pub reserved : last ≤ capacity

-- a list so far of what a function makes of each item, and room for all
pub record Copied {A B : Type 0} (f : A → B) (xs : List A) (n : ℕ) (ys : List B) (capacity : ℕ) : Type 0 where
  pub front : ys ≡ map f (take n xs)
  pub reserved : length xs ≤ capacity

-- the copy of the first n items has n of them, where the list is longer
pub copied_length : {A B : Type 0} (f : A → B) (xs : List A) (n : ℕ) (ys : List B) → ys ≡ map f (take n xs) → n < length xs → length ys ≡ n
copied_length f xs n ys is lt = ap length is ∙ length_map f (take n xs) ∙ length-take-le n xs (omega arith)

-- the copy of the first n items, and what the function makes of the next, is the copy of one more
pub copied_more : {A B : Type 0} (f : A → B) (xs : List A) (n : ℕ) (ys : List B) (x : A) → ys ≡ map f (take n xs) → slice_get xs n ≡ Some x
    → ys ++ f x ∷ [] ≡ map f (take (n + 1) xs)
copied_more f xs n ys x is at =
    ap (λ l. l ++ f x ∷ []) is
    ∙ sym (map-append f (take n xs) (x ∷ []))
    ∙ ap (λ y. map f (take n xs ++ y ∷ [])) (sym (get_or_from_slice_get xs n x x at))
    ∙ ap (map f) (sym (take-suc xs n x (slice_get_within xs n x at))) ∙ ap (λ k. map f (take k xs)) (sym (add-one n))

-- a list that is changed at a place, seen by a function
pub map_set : {A B : Type 0} (f : A → B) (xs : List A) (i : ℕ) (x : A) → map f (slice_set xs i x) ≡ slice_set (map f xs) i (f x)
map_set f [] i x = refl
map_set f (y ∷ xs) zero x = refl
map_set f (y ∷ xs) (suc i) x = ap (λ l. f y ∷ l) (map_set f xs i x)

-- a write of what is at a place changes nothing
pub set_same : {A : Type 0} (xs : List A) (i : ℕ) (x : A) → slice_get xs i ≡ Some x → slice_set xs i x ≡ xs
set_same [] i x e = refl
set_same (y ∷ xs) zero x e = let same : x ≡ y = cc in ap (λ z. z ∷ xs) same
set_same (y ∷ xs) (suc i) x e = ap (λ l. y ∷ l) (set_same xs i x e)

-- in a list of results, the result of an item is found where the item is
pub get_map : {A B : Type 0} (f : A → B) (xs : List A) (i : ℕ) (x : A) → slice_get xs i ≡ Some x → slice_get (map f xs) i ≡ Some (f x)
get_map f xs i x e = slice_get-map f xs i ∙ ap (option_map f) e

-- a list that is written twice at a place
pub set_back : {A : Type 0} (xs : List A) (i : ℕ) (y x : A) → slice_get xs i ≡ Some x → slice_set (slice_set xs i y) i x ≡ xs
set_back [] i y x e = refl
set_back (z ∷ xs) zero y x e = let same : x ≡ z = cc in ap (λ a. a ∷ xs) same
set_back (z ∷ xs) (suc i) y x e = ap (λ l. z ∷ l) (set_back xs i y x e)

-- all but the last of one more
pub front_again : {A : Type 0} (xs : List A) (x : A) → take (length (xs ++ x ∷ []) - 1) (xs ++ x ∷ []) ≡ xs
front_again xs x =
    let n : length (xs ++ x ∷ []) - 1 ≡ length xs = omega (arith, length-append xs (x ∷ [])) in
    ap (λ k. take k (xs ++ x ∷ [])) n ∙ take-append_seam xs (x ∷ [])

-- an item at a place is one of the list
pub got_has : {A : Type 0} (xs : List A) (i : ℕ) (x : A) → slice_get xs i ≡ Some x → Has xs x
got_has [] i x at = absurd cc
got_has (y ∷ xs) zero x at = inl (let same : x ≡ y = cc in same)
got_has (y ∷ xs) (suc i) x at = inr (got_has xs i x at)
