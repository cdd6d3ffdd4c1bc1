-- What is at a place of a list that is written, repeated or made longer.
use Rattle.std.proofs.Common.{◌≡◌, ◌≢◌, ℕ, zero, suc, ◌+◌, ◌<◌, Bool, true, ◌||◌, List, [], ◌∷◌, ◌++◌, length, map, take, Option, Some, ◌⊎◌, inl}
use Rattle.std.proofs.Common.{inr, refl, sym, ap, ◌∙◌, arith, drop, drop-cons, add-one}
use Rattle.std.specs.Prelude.{slice_get, slice_set, replicate}
use Rattle.std.specs.List.{list_any}
use Rattle.std.proofs.lemmas.Bool.{or_cases}
use Rattle.std.proofs.lemmas.List.{replicate-append-replicate}
use Rattle.std.proofs.Math.Bool.{or-true}
pub use Rattle.std.proofs.lemmas.Bool.{cases_eq as eq_or}
use Rattle.std.proofs.lemmas.Option.{get_or_from_slice_get}
pub use Rattle.std.proofs.lemmas.Option.{slice_get_within as got_within, slice_get_past as get_past}

abbrev pub some_of : {A : Type 0} → A → Option A
some_of x = Some x

-- Some of one item is Some of another only where they are the same item
pub inside : {A : Type 0} {x y : A} → some_of x ≡ some_of y → x ≡ y
inside e = cc

-- what is found after a write: the new item at its place, else what was there
pub got_set : {A : Type 0} (xs : List A) (i : ℕ) (y : A) (j : ℕ) (z : A) → slice_get (slice_set xs i y) j ≡ Some z
    → ((j ≡ i) × (z ≡ y)) ⊎ ((j ≢ i) × (slice_get xs j ≡ Some z))
got_set [] i y j z e = absurd cc
got_set (x ∷ xs) zero y zero z e = inl (refl, let h : y ≡ z = cc in sym h)
got_set (x ∷ xs) zero y (suc j) z e = inr (λ same. absurd (omega (arith, same)), e)
got_set (x ∷ xs) (suc i) y zero z e = inr (λ same. absurd (omega (arith, same)), e)
got_set (x ∷ xs) (suc i) y (suc j) z e =
    elim (got_set xs i y j z e) [ inl h ↦ inl (ap suc h.0, h.1) | inr h ↦ inr (λ same. h.0 (omega (arith, same)), h.1) ]

-- after a write the new item is found at its place, where there was one before
pub get_set_same : {A : Type 0} (xs : List A) (i : ℕ) (y x : A) → slice_get xs i ≡ Some x → slice_get (slice_set xs i y) i ≡ Some y
get_set_same [] i y x e = absurd cc
get_set_same (a ∷ xs) zero y x e = refl
get_set_same (a ∷ xs) (suc i) y x e = get_set_same xs i y x e

-- a write leaves what is found at every other place
pub get_set_other : {A : Type 0} (xs : List A) (i : ℕ) (y : A) (j : ℕ) → j ≢ i → slice_get (slice_set xs i y) j ≡ slice_get xs j
get_set_other [] i y j apart = refl
get_set_other (a ∷ xs) zero y zero apart = absurd (apart refl)
get_set_other (a ∷ xs) zero y (suc j) apart = refl
get_set_other (a ∷ xs) (suc i) y zero apart = refl
get_set_other (a ∷ xs) (suc i) y (suc j) apart = get_set_other xs i y j (λ same. apart (ap suc same))

-- a function on each item leaves as many items
pub length_map : {A B : Type 0} (f : A → B) (xs : List A) → length (map f xs) ≡ length xs
length_map f [] = refl
length_map f (x ∷ xs) = omega (arith, length_map f xs)

-- a write leaves as many items
pub length_set : {A : Type 0} (xs : List A) (i : ℕ) (y : A) → length (slice_set xs i y) ≡ length xs
length_set [] i y = refl
length_set (x ∷ xs) zero y = refl
length_set (x ∷ xs) (suc i) y = ap suc (length_set xs i y)

-- in a list of one item over and over nothing else is found
pub got_replicate : {A : Type 0} (n : ℕ) (x : A) (j : ℕ) (z : A) → slice_get (replicate n x) j ≡ Some z → z ≡ x
got_replicate zero x j z e = absurd cc
got_replicate (suc n) x zero z e = let h : x ≡ z = cc in sym h
got_replicate (suc n) x (suc j) z e = got_replicate n x j z e

-- a function maps n equal items to n equal results
pub map_replicate : {A B : Type 0} (f : A → B) (n : ℕ) (x : A) → map f (replicate n x) ≡ replicate n (f x)
map_replicate f zero x = refl
map_replicate f (suc n) x = ap (λ ys. f x ∷ ys) (map_replicate f n x)

-- n equal items and one more are n + 1 of them
pub replicate_more : {A : Type 0} (x : A) (n : ℕ) → replicate n x ++ x ∷ [] ≡ replicate (n + 1) x
replicate_more x n = replicate-append-replicate n 1 x

-- below the length of a list there is an item
pub get_within : {A : Type 0} (xs : List A) (i : ℕ) → i < length xs → (x : A) × (slice_get xs i ≡ Some x)
get_within [] i lt = absurd (omega arith)
get_within (x ∷ xs) zero lt = (x, refl)
get_within (x ∷ xs) (suc i) lt = get_within xs i (omega arith)

-- an item is found at the length of what is before it
pub get_middle : {A : Type 0} (xs : List A) (x : A) (ys : List A) → slice_get (xs ++ (x ∷ ys)) (length xs) ≡ Some x
get_middle [] x ys = refl
get_middle (y ∷ xs) x ys = get_middle xs x ys

-- in the first n items the same is found below n as in the whole list
pub get_take : {A : Type 0} (xs : List A) (n j : ℕ) → j < n → slice_get (take n xs) j ≡ slice_get xs j
get_take [] zero j lt = absurd (omega arith)
get_take [] (suc n) j lt = refl
get_take (x ∷ xs) zero j lt = absurd (omega arith)
get_take (x ∷ xs) (suc n) zero lt = refl
get_take (x ∷ xs) (suc n) (suc j) lt = get_take xs n j (omega arith)

-- a fact of some item, and of each
abbrev pub Some_of : {A : Type 0} → (A → Type 0) → List A → Type 0
Some_of P [] = ⊥
Some_of P (x ∷ xs) = P x ⊎ Some_of P xs

abbrev pub Each_of : {A : Type 0} → (A → Type 0) → List A → Type 0
Each_of P [] = Unit {0}
Each_of P (x ∷ xs) = P x × Each_of P xs

-- what says nothing is true of each item
pub each_unit : {A : Type 0} (xs : List A) → Each_of (λ x. Unit {0}) xs
each_unit [] = tt
each_unit (x ∷ xs) = (tt, each_unit xs)

-- two facts of each item are one fact of both
pub each_both : {A : Type 0} (P Q : A → Type 0) (xs : List A) → Each_of P xs → Each_of Q xs → Each_of (λ x. P x × Q x) xs
each_both P Q [] p q = tt
each_both P Q (x ∷ xs) p q = ((p.0, q.0), each_both P Q xs p.1 q.1)

-- where a test of a list for any item passes, it passes for some item
pub any_true : {A : Type 0} (p : A → Bool) (xs : List A) → list_any p xs ≡ true → Some_of (λ x. p x ≡ true) xs
any_true p [] e = absurd cc
any_true p (x ∷ xs) e = elim (or_cases (p x) (list_any p xs) e) [ inl h ↦ inl h | inr h ↦ inr (any_true p xs h) ]

-- and back: where it passes for some item, the test of the list for any passes
pub true_any : {A : Type 0} (p : A → Bool) (xs : List A) → Some_of (λ x. p x ≡ true) xs → list_any p xs ≡ true
true_any p [] h = absurd h
true_any p (x ∷ xs) (inl h) = ap (λ b. b || list_any p xs) h
true_any p (x ∷ xs) (inr h) = ap (λ b. p x || b) (true_any p xs h) ∙ or-true (p x)

-- an item of which one fact holds, where each has another
pub some_with : {A : Type 0} (P Q : A → Type 0) (R : Type 0) (xs : List A) → Some_of P xs → Each_of Q xs → ((x : A) → P x → Q x → R) → R
some_with P Q R [] h each f = absurd h
some_with P Q R (x ∷ xs) (inl h) each f = f x h each.0
some_with P Q R (x ∷ xs) (inr h) each f = some_with P Q R xs h each.1 f

-- where one fact holds of some item, and another of each, what both imply holds of some item
pub some_as : {A : Type 0} (P Q R : A → Type 0) (xs : List A) → Some_of P xs → Each_of Q xs → ((x : A) → P x → Q x → R x) → Some_of R xs
some_as P Q R [] h each f = absurd h
some_as P Q R (x ∷ xs) (inl h) each f = inl (f x h each.0)
some_as P Q R (x ∷ xs) (inr h) each f = inr (some_as P Q R xs h each.1 f)

-- the item at a place, before those after it
pub drop_at : {A : Type 0} (xs : List A) (i : ℕ) (x : A) → slice_get xs i ≡ Some x → drop i xs ≡ x ∷ drop (i + 1) xs
drop_at xs i x at = drop-cons xs i x (got_within xs i x at) ∙ (λ j. get_or_from_slice_get xs i x x at j ∷ drop (sym (add-one i) j) xs)
