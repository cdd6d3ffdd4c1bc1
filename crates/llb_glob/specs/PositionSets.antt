-- A set of positions in a name, which is kept while the name is matched: a flag for each position.
use Rattle.std.specs.Prelude.{◌≡◌, ◌↔◌, ℕ, ◌≤◌, Bool, true, false, List, length, drop, slice_index_or}
use Rattle.llb_glob.specs.declared.item.Item.{Item}
use Rattle.llb_glob.specs.Matching.{MatchesName}

-- position i is in the set
abbrev pub IsIn : List Bool → ℕ → Type 0
IsIn places i = slice_index_or places i false ≡ true

-- at least one position from i to `last` is in the set
abbrev pub Reaches : List Bool → ℕ → ℕ → Type 0
Reaches places last i = (j : ℕ) × (i ≤ j) × (j ≤ last) × IsIn places j

-- a position is in the set exactly if the items match the name from this position to its end
pub record AreStarts (items : List Item) (name : List ℕ) (places : List Bool) : Type 0 where
  pub at : (i : ℕ) → i ≤ length name → IsIn places i ↔ MatchesName items (drop i name)
