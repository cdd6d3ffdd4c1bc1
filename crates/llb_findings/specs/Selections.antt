-- Those values of a list that have a property, in the list's order.
use Rattle.std.specs.Prelude.{◌≡◌, ◌⊎◌, ℕ, zero, suc, List, [], ◌∷◌, ◌++◌}

-- `kept` has those of these values that have the property P, in the same order
unfoldable pub AreThose : {A : Type 0} → (A → Type 0) → List A → List A → Type 0
AreThose P [] kept = kept ≡ []
AreThose P (x ∷ xs) kept = ((¬ P x) × AreThose P xs kept) ⊎ ((rest : _) × (kept ≡ x ∷ rest) × P x × AreThose P xs rest)

-- `next` is the list `before` with those of these values behind it that have the property P
abbrev pub Adds : {A : Type 0} → (A → Type 0) → List A → List A → List A → Type 0
Adds P xs before next = (added : _) × (next ≡ before ++ added) × AreThose P xs added

-- the lists that `c` has for the numbers 0 to n - 1, one after another
unfoldable pub joined_below : {A : Type 0} → ℕ → (ℕ → List A) → List A
joined_below zero c = []
joined_below (suc n) c = joined_below n c ++ c n
