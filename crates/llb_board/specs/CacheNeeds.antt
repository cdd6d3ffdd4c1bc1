-- The caches that a vertex needs, and what a claim takes of them, given the current leases.
use Rattle.std.specs.Prelude.{◌≡◌, pos, ℕ, Bool, ◌&&◌, List, [], ◌∷◌, map, Option, Some, None, option_map, unwrap_or, slice_get, Result, Ok, Err}
use Rattle.std.specs.Prelude.{if◌then◌else◌}
use Rattle.llb_cache.specs.declared.key.Key.{Key}
use Rattle.llb_cache.specs.declared.lease_needs.Need as cache_need
use Rattle.llb_cache.specs.declared.lease_additions.Growth.{Growth}
use Rattle.llb_cache.specs.LeaseAdditions.{growth_at}
use Rattle.llb_cache.specs.Caches as cache
use Rattle.llb_cache.specs.Caches.{Leases, is_held, is_locked}
use Rattle.llb_tree.specs.Tree.{TreeMap}
use Rattle.llb_ops.specs.declared.op.Input.{Input}
use Rattle.llb_loader.specs.declared.graph.Edge.{Edge}
use Rattle.llb_loader.specs.declared.graph.Vertex.{Vertex}
use Rattle.llb_model.specs.Caches.{Instance, place}
use Rattle.llb_model.specs.TwoCacheModels.{store_of, asked, places_taken}
use Rattle.llb_model.specs.Program.{Need, base_in}
use Rattle.llb_model.specs.State.{first_trees}
use Rattle.llb_events.specs.declared.refusal.ClaimFault.{ClaimFault}
use Rattle.llb_events.specs.declared.refusal.ClaimFault.TheVariants as claim
use Rattle.llb_board.specs.declared.workers.cache_needs.Wanted.{Wanted}

-- whether a key is locked and a lease holds its instance
abbrev pub is_locked_and_held : Leases → Key → Bool
is_locked_and_held out k = is_locked k.mode && is_held out (place k 0)

-- the first locked key of these needs whose instance a lease holds; nothing if there is no such key
abbrev pub first_held_key : Leases → List Need → Option Key
first_held_key out [] = None
first_held_key out (n ∷ needs) = if is_locked_and_held out n.key then Some n.key else first_held_key out needs

-- the needs or, if a key is given, the refusal of a claim because this key is held
abbrev pub unless_held : List Need → Option Key → Result (List Need) ClaimFault
unless_held needs None = Ok needs
unless_held needs (Some k) = Err (claim.Held k)

-- the model's need for a wanted cache (a cache that a mount of the vertex shows)
abbrev pub need_of : Wanted → Need
need_of w = record { mount = w.mount; key = w.key; input = w.input }

-- the number of an instance among the instances of its key
abbrev pub number_of : Instance → ℕ
number_of p = p.number

-- a vertex has an edge for each input of its op, to the output that the input names
abbrev pub HasEdges : Vertex → Type 0
HasEdges v = (i : ℕ) (input : Input) → slice_get v.op.inputs i ≡ Some input → (e : Edge) × (slice_get v.inputs i ≡ Some e) × (input.index ≡ pos e.index)

-- the key if there is one and it is locked, else nothing
abbrev pub if_locked : Option Key → Option Key
if_locked None = None
if_locked (Some k) = if is_locked k.mode then Some k else None

-- what was looked up for a wanted cache is right: the number of the instance that a lease would take, and the tree of this instance if the instance exists
pub record IsFound (c : cache.CachesValue) (w : Wanted) : Type 0 where
  pub number : w.found.number ≡ cache.number_for c.out w.key w.key.mode
  pub tree : option_map (λ t. t.now) w.found.tree ≡ slice_get (cache.trees_of c.rows w.key) w.found.number

-- the instance that a lease would take of a cache that an exec mounts (w): the cache's key, with the number of the instance that was looked up
abbrev pub place_found : Wanted → Instance
place_found w = place w.key w.found.number

-- the tree of an instance at the claim: its present tree if the instance exists, else the tree of the mount's input or, if there is no input, the empty tree
abbrev pub first_tree : List TreeMap → Wanted → TreeMap
first_tree inputs w = unwrap_or (option_map (λ t. t.now) w.found.tree) (base_in w.input inputs)

-- the number of the row in which the key was found; none if it was found in no row
abbrev pub row_found : Wanted → Option ℕ
row_found w = w.found.row

-- what a claim takes: instances, their numbers, their trees at the claim, and the needs for the lease (a key, and the tree with which a new instance begins)
abbrev pub Taking : Type 0
Taking = List Instance × List ℕ × List TreeMap × List cache_need.Need

-- what a claim with these needs takes of these caches: instances, their numbers, their trees at the claim, and the needs for the lease
abbrev pub taken_with : cache.CachesValue → List TreeMap → List Need → Taking
taken_with c inputs needs = (
  places_taken c.out needs,
  map number_of (places_taken c.out needs),
  first_trees (store_of c.rows) inputs (places_taken c.out needs) needs,
  asked inputs needs,
)

-- what a claim takes for these wanted caches, by what was looked up for each of them
abbrev pub taken_by : List TreeMap → List Wanted → Taking
taken_by inputs ws = (
  map place_found ws,
  map number_of (map place_found ws),
  map (first_tree inputs) ws,
  asked inputs (map need_of ws),
)
