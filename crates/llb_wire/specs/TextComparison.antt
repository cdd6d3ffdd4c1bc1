-- Comparisons of texts, and helpers for reading a value from a text.
use Rattle.std.specs.Prelude.{ℕ, nat_eq, Bool, true, false, List, Option, Some, None}
use Rattle.std.specs.Cmp.Lexicographic.{pointwise}

-- whether two texts are equal
abbrev pub is_text : List ℕ → List ℕ → Bool
is_text a b = pointwise nat_eq a b

-- the value if the flag, the result of a test, is true; else nothing
abbrev pub where_so : {A : Type 0} → Bool → A → Option A
where_so true x = Some x
where_so false x = None

-- f applied to a value, if there is one; else nothing
abbrev pub then_in : {A B : Type 0} → Option A → (A → Option B) → Option B
then_in None f = None
then_in (Some x) f = f x
