-- A list that is made of another one, item after item.
use Rattle.std.proofs.Common.{◌≡◌, ℕ, ◌+◌, ◌≤◌, List, [], ◌∷◌, ◌++◌, map, take, length, sym, ap, ◌∙◌}
use Rattle.std.specs.Prelude.{Some, slice_get}
use Rattle.std.proofs.lemmas.List.{map_more, take_all}
use Rattle.std.proofs.lemmas.Option.{slice_get_within, get_or_from_slice_get}

-- a list so far of what a function makes of each item
abbrev pub Copied : {A B : Type 0} → (A → B) → List A → ℕ → List B → Type 0
Copied f xs n ys = ys ≡ map f (take n xs)

pub copied_more : {A B : Type 0} (f : A → B) (xs : List A) (n : ℕ) (ys : List B) (x : A) → Copied f xs n ys → slice_get xs n ≡ Some x
    → Copied f xs (n + 1) (ys ++ f x ∷ [])
copied_more f xs n ys x is at =
    ap (λ l. l ++ f x ∷ []) is ∙ ap (λ y. map f (take n xs) ++ f y ∷ []) (sym (get_or_from_slice_get xs n x x at))
    ∙ sym (map_more f xs n x (slice_get_within xs n x at))

pub copied_all : {A B : Type 0} (f : A → B) (xs : List A) (n : ℕ) (ys : List B) → Copied f xs n ys → length xs ≤ n → ys ≡ map f xs
copied_all f xs n ys is past = is ∙ ap (map f) (take_all n xs past)
