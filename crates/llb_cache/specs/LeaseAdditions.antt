-- What a lease adds to the rows; how this is removed again; and leases of instances that exist, which add nothing.
use Rattle.std.specs.Prelude.{◌≡◌, ◌≢◌, ℕ, ◌-◌, ◌<◌, nat_lt, false, if◌then◌else◌, List, [], ◌∷◌, length, map, take, Option, Some, None}
use Rattle.std.specs.List.{All, AllPairs}
use Rattle.std.specs.Map.{lookup}
use Rattle.llb_tree.specs.Tree.{TreeMap}
use Rattle.llb_cache.specs.declared.lease_additions.Growth.{Growth}
use Rattle.llb_cache.specs.declared.lease_additions.Growth.TheVariants.{Nothing, NewInstance, NewRow}
use Rattle.llb_cache.specs.declared.key.Key.{Key}
use Rattle.llb_cache.specs.declared.lease_needs.Need.{Need}
use Rattle.llb_cache.specs.declared.lease_needs.Instance.{Instance}
use Rattle.llb_cache.specs.Key.{same_key}
use Rattle.llb_cache.specs.Caches.{CachesValue, Row, trees_of, with_trees, place_for, is_held, leases, places_of, free_lease, with_lease, given_back}
use Rattle.llb_cache.specs.Caches.{IsExclusive}

-- a list without its last item; an empty list stays empty
abbrev pub front : {A : Type 0} → List A → List A
front xs = take (length xs - 1) xs

-- what is added to the rows when instance n of a key is made, given the trees of the key (`None` if the key has no row)
abbrev pub growth_by : Option (List TreeMap) → ℕ → Growth
growth_by None n = NewRow
growth_by (Some ts) n = if nat_lt n (length ts) then Nothing else NewInstance

-- what is added to the rows when this instance is made
abbrev pub growth_at : List Row → Instance → Growth
growth_at rows p = growth_by (lookup (same_key p.key) rows) p.number

-- for each of these needs, what a lease of the needs adds to the rows
abbrev pub growths : CachesValue → List Need → List Growth
growths c needs = map (λ (n : Need). growth_at c.rows (place_for c.out n.key)) needs

-- the rows after the last instance of a key is removed, given the trees of the key (`None` if the key has no row)
abbrev pub shorter : List Row → Key → Option (List TreeMap) → List Row
shorter rows key None = rows
shorter rows key (Some ts) = with_trees rows key (front ts)

-- the rows without what was added when this instance was made: nothing, the last instance of its key, or the last row
abbrev pub unmade_one : List Row → Instance → Growth → List Row
unmade_one rows p Nothing = rows
unmade_one rows p NewInstance = shorter rows p.key (lookup (same_key p.key) rows)
unmade_one rows p NewRow = front rows

-- the rows without what was added when these instances were made; what was added for the last instance is removed first
abbrev pub unmade : List Row → List Instance → List Growth → List Row
unmade rows [] gs = rows
unmade rows (p ∷ ps) [] = rows
unmade rows (p ∷ ps) (g ∷ gs) = unmade_one (unmade rows ps gs) p g

-- the caches after a lease is given back and all that this lease had added to the rows is removed
abbrev pub taken_back : CachesValue → ℕ → List Growth → CachesValue
taken_back c lease gs = record (given_back c lease) { rows = unmade c.rows (places_of c.out lease) gs }

-- the value of a prepared lease: its instances, and for how many leases the list that was allocated for it has room
pub record LentValue : Type 0 where
  pub places : List Instance
  pub room : ℕ

-- the caches after a lease of these instances is granted; the instances exist, so the rows do not change
abbrev pub lent_again : CachesValue → List Instance → CachesValue
lent_again c ps = record c { out = with_lease c.out (free_lease c.out) ps }

-- a prepared lease can be granted: its instances exist and have distinct keys, those of private or locked keys are in no lease, and one more lease fits
pub record CanLend (c : CachesValue) (l : LentValue) : Type 0 where
  pub free : All (λ p. IsExclusive p.key.mode → is_held c.out p ≡ false) l.places
  pub apart : AllPairs (λ p q. p.key ≢ q.key) l.places
  pub there : All (λ p. p.number < length (trees_of c.rows p.key)) l.places
  pub few : leases c.out < 65536
  pub room : leases c.out < l.room
