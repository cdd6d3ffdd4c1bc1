-- Which characters a class matches, as a relation and as a test; and how a class is built, item by item.
use Rattle.std.specs.Prelude.{ℕ, ◌≤◌, nat_le, ◌⊎◌, Bool, true, false, not, ◌&&◌, List, [], ◌∷◌}
use Rattle.std.specs.List.{list_any}
use Rattle.llb_glob.specs.declared.class.Span.{Span}
use Rattle.llb_glob.specs.ClassValue.{ClassValue}

-- a character is in an item: its scalar value is from the low end to the high end; an item whose low end is above its high end has no characters
abbrev pub IsInSpan : Span → ℕ → Type 0
IsInSpan span c = (span.low ≤ c) × (c ≤ span.high)

-- a character is in at least one of the items
abbrev pub IsInSome : List Span → ℕ → Type 0
IsInSome [] c = ⊥
IsInSome (span ∷ spans) c = IsInSpan span c ⊎ IsInSome spans c

-- a statement, or its negation if the flag is true, as for a class that excludes (`[^..]`)
abbrev pub Excluding : Bool → Type 0 → Type 0
Excluding false P = P
Excluding true P = ¬ P

-- a class matches a character: at least one item of the class has the character; or, if the class excludes, no item has it
abbrev pub ClassTakes : ClassValue → ℕ → Type 0
ClassTakes class c = Excluding class.excludes (IsInSome class.spans c)

-- whether a character is in an item: the relation `IsInSpan` as a test
abbrev pub is_in_span : Span → ℕ → Bool
is_in_span span c = nat_le span.low c && nat_le c span.high

-- the result of a test, or its opposite if the flag is true, as for a class that excludes
abbrev pub excluding : Bool → Bool → Bool
excluding false b = b
excluding true b = not b

-- whether a class matches a character
abbrev pub class_takes : ClassValue → ℕ → Bool
class_takes class c = excluding class.excludes (list_any (λ span. is_in_span span c) class.spans)

-- ---- how a class is built

-- a class without items, which does not exclude
abbrev pub none_yet : ClassValue
none_yet = record { excludes = false; spans = [] }

-- the item that is one character
abbrev pub one_alone : ℕ → Span
one_alone c = record { low = c; high = c }

-- these items, with the high end of the last item set to `high`; no items if there are none
abbrev pub extended : List Span → ℕ → List Span
extended [] high = []
extended (span ∷ []) high = record span { high = high } ∷ []
extended (span ∷ next ∷ spans) high = span ∷ extended (next ∷ spans) high
