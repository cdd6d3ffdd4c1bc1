-- Marks of the instances that leases have. Item n of a row's list of marks is the mark of instance n; an instance past the end of the list has no mark.
use Rattle.std.specs.Prelude.{◌≡◌, ◌⊎◌, Bool, false, List, [], ◌∷◌, length, slice_index_or, if◌then◌else◌}
use Rattle.std.specs.List.{list_any}
use Rattle.std.specs.Map.{keys_of}
use Rattle.llb_cache.specs.declared.key.Key.{Key}
use Rattle.llb_cache.specs.declared.lease_needs.Instance.{Instance}
use Rattle.llb_cache.specs.Key.{same_key}
use Rattle.llb_cache.specs.Caches.{CachesValue, Row, IsCaches, IsExclusive, same_place, is_held, trees_of}

-- whether an instance is marked
unfoldable pub marked : List Key → List (List Bool) → Instance → Bool
marked [] marks p = false
marked (k ∷ keys) [] p = false
marked (k ∷ keys) (m ∷ marks) p = if same_key p.key k then slice_index_or m p.number false else marked keys marks p

-- whether an instance is in a list of instances
abbrev pub is_one_of : List Instance → Instance → Bool
is_one_of ps p = list_any (same_place p) ps

-- after a change, each instance that passes the test is marked exactly if b is true, and each other instance has the mark that it had before
abbrev pub Remarks : List Key → List (List Bool) → List Key → List (List Bool) → (Instance → Bool) → Bool → Type 0
Remarks keys marks keys' marks' test b = (p : Instance) → marked keys' marks' p ≡ (if test p then b else marked keys marks p)

-- `IsCaches` holds, there is one list of marks for each row, and an instance of a locked or a private key is marked exactly if a lease has it
pub record IsMarked (c : CachesValue) (marks : List (List Bool)) : Type 0 where
  pub caches : IsCaches c
  pub each : length marks ≡ length c.rows
  pub exact : (p : Instance) → IsExclusive p.key.mode → marked (keys_of c.rows) marks p ≡ is_held c.out p

-- after a removal from the rows, each instance has the mark that it had before, or its key has no instances and the instance has no mark
abbrev pub Unmarks : List Row → List (List Bool) → List Row → List (List Bool) → Type 0
Unmarks rows marks rows' marks' = (p : Instance) → (marked (keys_of rows') marks' p ≡ marked (keys_of rows) marks p)
    ⊎ ((marked (keys_of rows') marks' p ≡ false) × (length (trees_of rows' p.key) ≡ 0))
