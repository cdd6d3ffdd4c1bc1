-- The first row that has a given key; and rows with the trees of one row replaced.
use Rattle.std.specs.Prelude.{◌≡◌, ℕ, zero, suc, true, false, List, [], ◌∷◌}
use Rattle.std.specs.List.{AllByRecursion}
use Rattle.std.specs.Map.{keys_of}
use Rattle.llb_tree.specs.Tree.{TreeMap}
use Rattle.llb_cache.specs.declared.key.Key.{Key}
use Rattle.llb_cache.specs.Key.{same_key}
use Rattle.llb_cache.specs.Caches.{Row}

-- no row has the key
abbrev pub IsAbsent : Key → List Row → Type 0
IsAbsent k es = AllByRecursion (λ l. same_key k l ≡ false) (keys_of es)

-- row i has the key, and no earlier row has it
abbrev pub IsFirst : Key → List Row → ℕ → Type 0
IsFirst k [] i = ⊥
IsFirst k (e ∷ es) zero = same_key k e.0 ≡ true
IsFirst k (e ∷ es) (suc i) = (same_key k e.0 ≡ false) × IsFirst k es i

-- the rows, with the trees of row i replaced by the trees w
abbrev pub set_trees : List Row → ℕ → List TreeMap → List Row
set_trees [] i w = []
set_trees (e ∷ es) zero w = (e.0, w) ∷ es
set_trees (e ∷ es) (suc i) w = e ∷ set_trees es i w
