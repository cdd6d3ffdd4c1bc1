-- Two lists that are equal once a function is applied to their items have, at each place, items of which the function has one value.
use Rattle.std.proofs.Common.{◌≡◌, ℕ, ◌<◌, List, length, map, Some, option_map, get_or, slice_get, IsTrue, true≢false, false, refl, sym, ap, subst, ◌∙◌}
use Rattle.std.proofs.lemmas.Option.{slice_get-map, slice_get-get_or, slice_get_read, same_Some}

alike_items : {A B : Type 0} (f : A → B) (xs ys : List A) (i : ℕ) (x y : A) → slice_get xs i ≡ Some x → slice_get ys i ≡ Some y
    → map f xs ≡ map f ys → f x ≡ f y
alike_items f xs ys i x y first second e =
    same_Some _ _ (sym (ap (option_map f) first) ∙ sym (slice_get-map f xs i) ∙ ap (λ l. slice_get l i) e ∙ slice_get-map f ys i ∙ ap (option_map f) second)

-- for items that are read at a place of both lists
pub alike_at : {A B : Type 0} (f : A → B) (xs ys : List A) (i : ℕ) (x y : A) → i < length xs → length xs ≡ length ys → x ≡ get_or xs i x → y ≡ get_or ys i y
    → map f xs ≡ map f ys → f x ≡ f y
alike_at f xs ys i x y low len here there =
    alike_items f xs ys i x y (slice_get_read xs (length xs) i x refl low here) (slice_get_read ys (length ys) i y refl (subst (λ n. i < n) len low) there)

-- for items that are read with a default value in the place of a missing one
pub alike_read : {A B : Type 0} (f : A → B) (xs ys : List A) (i : ℕ) (d : A) → i < length xs → length xs ≡ length ys
    → map f xs ≡ map f ys → f (get_or xs i d) ≡ f (get_or ys i d)
alike_read f xs ys i d low len = alike_items f xs ys i _ _ (slice_get-get_or xs i d low) (slice_get-get_or ys i d (subst (λ n. i < n) len low))

-- if a fact never holds, the test `false` for it is right
pub differ : {A : Type 0} → (A → ⊥) → (IsTrue false → A) × (A → IsTrue false)
differ never = (λ h. absurd (true≢false (sym h)), λ a. absurd (never a))
