-- How the two models of caches are related. llb_cache models caches as rows, in the order in which the keys were first leased; a row is a key with the list of
-- its trees. llb_cache also numbers the leases. Callers of llb_cache list the keys in the order of the rows, and give a lease back by its number. The machine
-- models caches as a store, a map from instances to trees. If two workers lease two new keys, the store is the same in either order of the leases, but the rows
-- differ, since a new key is put last. This file says which store a list of rows represents, the rows after an event, and the leases that workers have.
use Rattle.std.specs.Prelude.{◌≡◌, ◌⊎◌, ℕ, ◌+◌, true, List, [], ◌∷◌, ◌++◌, length, map, Option, Some, None, slice_get, slice_set, nat_lt}
use Rattle.std.specs.Prelude.{if◌then◌else◌}
use Rattle.std.specs.FinMap as finite
use Rattle.llb_cache.specs.declared.key.Key.{Key}
use Rattle.llb_cache.specs.declared.lease_needs.Need as cache_need
use Rattle.llb_cache.specs.declared.lease_additions.Growth.{Growth}
use Rattle.llb_cache.specs.LeaseAdditions.{growth_at}
use Rattle.llb_cache.specs.Caches as cache
use Rattle.llb_cache.specs.Caches.{Row, Leases, trees_of, with_trees, is_held}
use Rattle.llb_tree.specs.Tree.{TreeMap}
use Rattle.llb_model.specs.Caches.{Instance, place, Store, put, tree_of, Has}
use Rattle.llb_model.specs.Program.{Need, base_in}
use Rattle.llb_model.specs.State.{State, Execution, WorkerStatus, Runs, held, places_at}

-- ---- the store that rows represent

-- the store after these trees are put in the instances n, n + 1 and so on of a key
abbrev pub put_from : Store → Key → ℕ → List TreeMap → Store
put_from s k n [] = s
put_from s k n (t ∷ ts) = put (put_from s k (n + 1) ts) (place k n) t

-- the store that has, for each key of the second list of rows, the trees that the first list of rows has for this key
abbrev pub store_from : List Row → List Row → Store
store_from all [] = finite.empty
store_from all (r ∷ rows) = put_from (store_from all rows) r.0 0 (trees_of all r.0)

-- the store that a list of rows represents
unfoldable pub store_of : List Row → Store
store_of rows = store_from rows rows

-- ---- rows after an event

-- the rows with new trees in these instances, which all exist: each instance gets the tree at the same position of the list of trees
abbrev pub put_each : List Row → List Instance → List TreeMap → List Row
put_each rows [] ts = rows
put_each rows (p ∷ ps) [] = rows
put_each rows (p ∷ ps) (t ∷ ts) = put_each (cache.put rows p t) ps ts

-- the rows after a tree is written to one instance: if the instance exists, its tree is replaced; else the tree is appended to the trees of the key
abbrev pub showing : List Row → Instance → TreeMap → List Row
showing rows p t =
    with_trees rows p.key (if nat_lt p.number (length (trees_of rows p.key)) then slice_set (trees_of rows p.key) p.number t else trees_of rows p.key ++ t ∷ [])

-- the rows with the store's trees in these instances: each instance gets the tree that the store has for it
abbrev pub written : Store → List Row → List Instance → List Row
written s rows [] = rows
written s rows (p ∷ ps) = written s (showing rows p (tree_of s p)) ps

-- the rows after an event of worker w, given the state after the event: the event writes or makes only instances that w holds in that state
abbrev pub rows_after : List Row → State → ℕ → List Row
rows_after rows s w = written s.store rows (places_at (slice_get s.workers w))

-- ---- what a lease needs, and which instances it takes

-- the needs of a vertex as llb_cache takes them: for each need its key, and the tree that a new instance begins with (an input's tree, or the empty tree)
abbrev pub asked : List TreeMap → List Need → List cache_need.Need
asked inputs needs = map (λ (n : Need). record { key = n.key; tree = base_in n.input inputs }) needs

-- the instances that a lease of these needs takes, given the current leases
abbrev pub places_taken : Leases → List Need → List Instance
places_taken out needs = map (λ (n : Need). cache.place_for out n.key) needs

-- what a lease of one need adds to the rows of the caches: a new instance, a new row with its first instance, or nothing
abbrev pub growth_for : cache.CachesValue → Need → Growth
growth_for c n = growth_at c.rows (cache.place_for c.out n.key)

-- ---- the leases of workers

-- the current leases have exactly the instances that the running workers hold
pub record HoldsAs (out : Leases) (workers : List WorkerStatus) : Type 0 where
  pub leased : (p : Instance) → Has (held workers) p → is_held out p ≡ true
  pub running : (p : Instance) → is_held out p ≡ true → Has (held workers) p

-- l, a worker's item in a list of lease numbers, is the number of a lease of these instances; or the item is empty, and there are no instances
abbrev pub HasLease : Leases → Option (Option ℕ) → List Instance → Type 0
HasLease out l ps = ((k : ℕ) × (l ≡ Some (Some k)) × cache.Has out k ps) ⊎ ((l ≡ Some None) × (ps ≡ []))

-- each running worker that holds instances has a lease of exactly these instances; no two workers have the same lease, and every lease belongs to a worker
pub record AreLeased (out : Leases) (workers : List WorkerStatus) (ls : List (Option ℕ)) : Type 0 where
  pub count : length ls ≡ length workers
  pub has : (w : ℕ) (x : Execution) → slice_get workers w ≡ Some (Runs x) → HasLease out (slice_get ls w) x.places
  pub runs : (w l : ℕ) → slice_get ls w ≡ Some (Some l) → (x : Execution) × (slice_get workers w ≡ Some (Runs x))
  pub once : (w u l : ℕ) → slice_get ls w ≡ Some (Some l) → slice_get ls u ≡ Some (Some l) → w ≡ u
  pub whose : (l : ℕ) (ps : List Instance) → cache.Has out l ps → (w : ℕ) × (slice_get ls w ≡ Some (Some l))
