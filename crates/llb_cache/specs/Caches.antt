-- Caches: the instances of each key, and the instances that each lease has. For a shared or a locked key a new lease takes instance 0, for a private key
-- the first instance that no lease has. If a lease has the instance of a locked key, no other lease gets it.
use Rattle.std.specs.Prelude.{◌≡◌, ◌≢◌, ℕ, zero, suc, ◌+◌, ◌<◌, ◌≤◌, ◌==◌, Bool, true, false, not, ◌&&◌, nat_lt, if◌then◌else◌, List, []}
use Rattle.std.specs.Prelude.{◌∷◌, ◌++◌, length, map, fold, count_by, slice_get, slice_set, slice_index_or, Option, Some, None, is_some}
use Rattle.std.specs.Prelude.{unwrap_or, Result, Ok, Err}
use Rattle.std.specs.List.{list_any, find, position_or_len, All, AllPairs, Contains}
use Rattle.std.specs.Map.{lookup}
use Rattle.llb_tree.specs.Tree.{TreeMap}
use Rattle.llb_cache.specs.Key.{same_key}
use Rattle.llb_cache.specs.declared.key.Key.{Key}
use Rattle.llb_cache.specs.declared.key.Mode.{Mode}
use Rattle.llb_cache.specs.declared.key.Mode.TheVariants.{Shared, Private, Locked}
use Rattle.llb_cache.specs.declared.lease_needs.Need.{Need}
use Rattle.llb_cache.specs.declared.lease_needs.Instance.{Instance}
use Rattle.llb_cache.specs.declared.fault.LeaseFault.{LeaseFault}
use Rattle.llb_cache.specs.declared.fault.LeaseFault.TheVariants.{Held}

-- a row: a key, and the trees of the key's instances; the tree of instance n is item n
abbrev pub Row : Type 0
Row = Key × List TreeMap

-- the list of leases by number: a current lease is the list of its instances, in the order of its needs; a lease that was given back is `None`
abbrev pub Leases : Type 0
Leases = List (Option (List Instance))

-- the value of caches: the rows, in the order in which their keys were first leased, and the list of leases
pub record CachesValue : Type 0 where
  pub rows : List Row
  pub out : Leases

-- ---- the instances of a key

-- the instance of a key with this number
abbrev pub place : Key → ℕ → Instance
place key number = record { key = key; number = number }

-- the trees of a key's instances by number; none if the key has no row
abbrev pub trees_of : List Row → Key → List TreeMap
trees_of rows key = unwrap_or (lookup (same_key key) rows) []

-- the rows, with the trees of a key replaced by these trees; if no row has the key, a new row is appended
abbrev pub with_trees : List Row → Key → List TreeMap → List Row
with_trees [] key trees = (key, trees) ∷ []
with_trees (r ∷ rows) key trees = if same_key key r.0 then (r.0, trees) ∷ rows else r ∷ with_trees rows key trees

-- the tree of an instance, if the instance exists
abbrev pub tree_at : List Row → Instance → Option TreeMap
tree_at rows p = slice_get (trees_of rows p.key) p.number

-- the rows, with the tree of an instance replaced by this tree; the instance must exist
abbrev pub put : List Row → Instance → TreeMap → List Row
put rows p tree = with_trees rows p.key (slice_set (trees_of rows p.key) p.number tree)

-- the rows after an instance is made: if the instance does not exist, this tree is appended to the trees of its key; if it exists, nothing changes
abbrev pub made : List Row → Instance → TreeMap → List Row
made rows p tree = if nat_lt p.number (length (trees_of rows p.key)) then rows else with_trees rows p.key (trees_of rows p.key ++ tree ∷ [])

-- ---- which lease has which instances

-- whether two instances are the same
abbrev pub same_place : Instance → Instance → Bool
same_place p q = (p.number == q.number) && same_key p.key q.key

-- whether a lease has an instance
abbrev pub has : Instance → Option (List Instance) → Bool
has p None = false
has p (Some ps) = list_any (same_place p) ps

-- whether a current lease has an instance
unfoldable pub is_held : Leases → Instance → Bool
is_held out p = list_any (has p) out

-- how many leases are current
abbrev pub leases : Leases → ℕ
leases out = count_by is_some out

-- the instances of a lease; none if the lease is not current
abbrev pub places_of : Leases → ℕ → List Instance
places_of out lease = unwrap_or (unwrap_or (slice_get out lease) None) []

-- a lease is current: it was granted and not given back
abbrev pub IsOut : Leases → ℕ → Type 0
IsOut out lease = (ps : List Instance) × (slice_get out lease ≡ Some (Some ps))

-- the instance that a lease has for its need i
abbrev pub place_at : Leases → ℕ → ℕ → Instance
place_at out lease i = slice_index_or (places_of out lease) i (place (record { id = []; seed = None; mode = Shared }) 0)

-- ---- what a lease takes

-- the least number i from n to n + more - 1 such that no lease has instance i of this key; n + more if there is no such number
unfoldable pub first_free : Leases → Key → ℕ → ℕ → ℕ
first_free out key n zero = n
first_free out key n (suc more) = if is_held out (place key n) then first_free out key (n + 1) more else n

-- the number of a new lease's instance: 0 for a shared or locked key; else the least number whose instance no lease has (at most the number of leases)
abbrev pub number_for : Leases → Key → Mode → ℕ
number_for out key Shared = 0
number_for out key Locked = 0
number_for out key Private = first_free out key 0 (leases out)

-- the instance that a new lease takes for a key
abbrev pub place_for : Leases → Key → Instance
place_for out key = place key (number_for out key key.mode)

-- what is taken for one need: an instance, and the tree with which the instance is made if it does not exist
abbrev pub Taken : Type 0
Taken = Instance × TreeMap

-- for each need of a new lease, in order: the instance that the lease takes for the need, and the tree of the need
abbrev pub taken : Leases → List Need → List Taken
taken out needs = map (λ n. (place_for out n.key, n.tree)) needs

-- the rows after a lease has taken these instances: each of them that does not exist is made, with its tree
abbrev pub made_all : List Row → List Taken → List Row
made_all rows ts = fold (λ rows t. made rows t.0 t.1) rows ts

-- whether a mode is locked
abbrev pub is_locked : Mode → Bool
is_locked Locked = true
is_locked Shared = false
is_locked Private = false

-- whether the key of a need is locked and a lease has the only instance of this key, number 0
abbrev pub is_locked_and_held : Leases → Need → Bool
is_locked_and_held out n = is_locked n.key.mode && is_held out (place n.key 0)

-- the least number that no current lease has
abbrev pub free_lease : Leases → ℕ
free_lease out = position_or_len (λ o. not (is_some o)) out

-- the leases after a lease of these instances is added under this number: in the place of a lease that was given back, or at the end of the list
abbrev pub with_lease : Leases → ℕ → List Instance → Leases
with_lease out lease ps = if nat_lt lease (length out) then slice_set out lease (Some ps) else out ++ Some ps ∷ []

-- the number that a lease of these needs gets, and the caches after this lease is granted
abbrev pub granted : CachesValue → List Need → ℕ × CachesValue
granted c needs = (
  free_lease c.out,
  record {
    rows = made_all c.rows (taken c.out needs);
    out = with_lease c.out (free_lease c.out) (map (λ t. t.0) (taken c.out needs));
  },
)

-- the result of a lease of these needs: refused with the key of n, if n is the first need that can't be met; granted if there is no such need
abbrev pub lease_by : CachesValue → List Need → Option Need → Result (ℕ × CachesValue) LeaseFault
lease_by c needs None = Ok (granted c needs)
lease_by c needs (Some n) = Err (Held n.key)

-- the result of a lease of these needs: refused with the first locked key whose instance a lease has; granted if there is no such key
abbrev pub lease_of : CachesValue → List Need → Result (ℕ × CachesValue) LeaseFault
lease_of c needs = lease_by c needs (find (is_locked_and_held c.out) needs)

-- ---- the other calls

-- the caches after this tree replaces the tree of one instance: the instance that the lease has for its need i
abbrev pub with_content : CachesValue → ℕ → ℕ → TreeMap → CachesValue
with_content c lease i tree = record c { rows = put c.rows (place_at c.out lease i) tree }

-- a list of leases with `None` put before it; an empty list stays empty
abbrev pub before : Leases → Leases
before [] = []
before (o ∷ out) = None ∷ o ∷ out

-- the list of leases without the `None`s that follow the last current lease
unfoldable pub trimmed : Leases → Leases
trimmed [] = []
trimmed (Some ps ∷ out) = Some ps ∷ trimmed out
trimmed (None ∷ out) = before (trimmed out)

-- the caches after a lease is given back; all trees stay
abbrev pub given_back : CachesValue → ℕ → CachesValue
given_back c lease = record c { out = trimmed (slice_set c.out lease None) }

-- ---- what is true of all caches

-- a mode is private or locked: no two leases may have the same instance of a key with this mode at once
abbrev pub IsExclusive : Mode → Type 0
IsExclusive Shared = ⊥
IsExclusive Private = Unit {0}
IsExclusive Locked = Unit {0}

-- a current lease has exactly these instances
abbrev pub Has : Leases → ℕ → List Instance → Type 0
Has out lease ps = slice_get out lease ≡ Some (Some ps)

-- no two leases have the same instance of a private or a locked key
abbrev pub AreExclusive : Leases → Type 0
AreExclusive out = (a b : ℕ) (ps qs : List Instance) (p : Instance) → Has out a ps → Has out b qs → Contains ps p → Contains qs p → IsExclusive p.key.mode
    → a ≡ b

-- the instances of a lease have distinct keys
abbrev pub AreApart : Leases → Type 0
AreApart out = (a : ℕ) (ps : List Instance) → Has out a ps → AllPairs (λ p q. p.key ≢ q.key) ps

-- every instance that a lease has exists
abbrev pub AreThere : List Row → Leases → Type 0
AreThere rows out = (a : ℕ) (ps : List Instance) → Has out a ps → All (λ p. p.number < length (trees_of rows p.key)) ps

-- no key has more than 65,536 instances, which is also the limit on the number of current leases
abbrev pub AreFew : List Row → Type 0
AreFew rows = (key : Key) → length (trees_of rows key) ≤ 65536

-- what holds of all caches; `short` limits the length of the list of leases, and `ends` says that no `None` is at its end
pub record IsCaches (c : CachesValue) : Type 0 where
  pub exclusive : AreExclusive c.out
  pub apart : AreApart c.out
  pub there : AreThere c.rows c.out
  pub few : AreFew c.rows
  pub short : length c.out ≤ 65536
  pub ends : trimmed c.out ≡ c.out
