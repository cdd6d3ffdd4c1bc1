-- What vertices read of local sources, found item by item.
use Rattle.std.proofs.Common.{◌≡◌, ◌↔◌, ◌<◌, ℕ, ◌+◌, Bool, true, false, List, [], ◌∷◌, ◌++◌, length, get_or, Some, IsTrue}
use Rattle.std.proofs.Common.{inl, inr, refl, sym, subst, ◌∙◌, arith}
use Rattle.std.specs.Prelude.{slice_get, slice_index_or}
use Rattle.std.proofs.lemmas.Bool.{cases_eq}
use Rattle.std.proofs.lemmas.List.{get_or_append_left, get_or_push}

-- what holds of the first items, and of the next one
pub next_item : {A : Type 0} (P : ℕ → A → Type 0) (xs : List A) (i : ℕ) (x : A) → slice_get xs i ≡ Some x → P i x
    → ((k : ℕ) (y : A) → k < i → slice_get xs k ≡ Some y → P k y) → (k : ℕ) (y : A) → k < i + 1 → slice_get xs k ≡ Some y → P k y
next_item {A = A} P xs i x at here earlier k y low there = elim (cases_eq k i) [
  | inl e ↦ (
      let both : slice_get xs i ≡ Some y = subst (λ j. slice_get xs j ≡ Some y) e there in
      let some : Some x ≡ Some y = sym at ∙ both in
      let same : x ≡ y = cc in
      subst (λ j. P j y) (sym e) (subst (P i) same here))
  | inr other ↦ earlier k y (omega (arith, low, other)) there
]

-- the marks of the first items, and of the next one
pub next_mark : {A : Type 0} (P : A → Type 0) (xs : List A) (i : ℕ) (x : A) (marks longer : List Bool) (b : Bool) → slice_get xs i ≡ Some x
    → length marks ≡ i → longer ≡ marks ++ b ∷ [] → IsTrue b ↔ P x
    → ((k : ℕ) (y : A) → k < i → slice_get xs k ≡ Some y → (slice_index_or marks k false ≡ true) ↔ P y)
    → (k : ℕ) (y : A) → k < i + 1 → slice_get xs k ≡ Some y → (slice_index_or longer k false ≡ true) ↔ P y
next_mark {A = A} P xs i x marks longer b at count new here earlier =
    next_item (λ k y. (slice_index_or longer k false ≡ true) ↔ P y) xs i x at last before
  where
    last : (slice_index_or longer i false ≡ true) ↔ P x
    last = subst (λ c. (c ≡ true) ↔ P x) (sym (subst (λ ms. get_or ms i false ≡ b) (sym new) (get_or_push marks b false i count))) here

    before : (k : ℕ) (y : A) → k < i → slice_get xs k ≡ Some y → (slice_index_or longer k false ≡ true) ↔ P y
    before k y low there =
        let same : get_or longer k false ≡ get_or marks k false =
        subst (λ ms. get_or ms k false ≡ get_or marks k false) (sym new) (get_or_append_left marks (b ∷ []) false k (omega (arith, low, count))) in
        subst (λ c. (c ≡ true) ↔ P y) (sym same) (earlier k y low there)
