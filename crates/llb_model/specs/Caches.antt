-- The contents of caches: a finite map from instances, each a key and a number, to trees.
use Rattle.std.specs.Prelude.{◌≡◌, ℕ, Bool, List, [], ◌∷◌, map, Option, Some, None, unwrap_or, ◌⊎◌}
use Rattle.std.specs.Ordering.{ordering_then, nat_cmp, eq_by_cmp}
use Rattle.std.specs.List.{list_any}
use Rattle.std.specs.declared.cmp.Ordering.{Ordering}
use Rattle.std.specs.FinMap as finite
use Rattle.std.specs.FinMap.{FinMap}
use Rattle.llb_cache.specs.KeyOrder.{key_cmp}
pub use Rattle.llb_cache.specs.declared.lease_needs.Instance.{Instance}
pub use Rattle.llb_cache.specs.Caches.{place, IsExclusive}
use Rattle.llb_tree.specs.Tree.{TreeMap, empty_tree}

-- ---- instances

-- the order of instances: by number, then by key
abbrev pub place_cmp : Instance → Instance → Ordering
place_cmp p q = ordering_then (nat_cmp p.number q.number) (key_cmp p.key q.key)

-- whether an instance is in a list
abbrev pub is_in : List Instance → Instance → Bool
is_in ps p = list_any (λ q. eq_by_cmp place_cmp p q) ps

-- ---- contents

-- the contents of the caches: a tree for each instance that exists
abbrev pub Store : Type 0
Store = FinMap place_cmp TreeMap

-- the contents of caches that have no instances
abbrev pub no_instances : Store
no_instances = finite.empty

-- the tree of an instance, if the instance exists
unfoldable pub content : Store → Instance → Option TreeMap
content s p = finite.get s p

-- the store after this tree is put in one instance, which exists from then on
unfoldable pub put : Store → Instance → TreeMap → Store
put s p t = finite.insert s p t

-- the store after each of these trees is put in the instance at the same position of the list of instances
abbrev pub put_all : Store → List Instance → List TreeMap → Store
put_all s [] ts = s
put_all s (p ∷ ps) [] = s
put_all s (p ∷ ps) (t ∷ ts) = put_all (put s p t) ps ts

-- the tree of an instance; the empty tree if the instance does not exist
abbrev pub tree_of : Store → Instance → TreeMap
tree_of s p = unwrap_or (content s p) empty_tree

-- the trees of these instances; the empty tree for each that does not exist
abbrev pub trees_at : Store → List Instance → List TreeMap
trees_at s ps = map (λ p. unwrap_or (content s p) empty_tree) ps

-- each of these instances has the tree at the same position of the list of trees
abbrev pub Hold : Store → List Instance → List TreeMap → Type 0
Hold s [] [] = Unit {0}
Hold s [] (t ∷ ts) = ⊥
Hold s (p ∷ ps) [] = ⊥
Hold s (p ∷ ps) (t ∷ ts) = (content s p ≡ Some t) × Hold s ps ts

-- ---- lists, of any type

-- p is one of the items of a list
abbrev pub Has : {A : Type 0} → List A → A → Type 0
Has [] p = ⊥
Has (q ∷ qs) p = (p ≡ q) ⊎ Has qs p

-- no item is in the list twice
abbrev pub Distinct : {A : Type 0} → List A → Type 0
Distinct [] = Unit {0}
Distinct (p ∷ ps) = (Has ps p → ⊥) × Distinct ps
