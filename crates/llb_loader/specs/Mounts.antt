-- Mounts of an exec: their types, their dests and selectors as paths, and the keys of the caches that they show.
use Rattle.std.specs.Prelude.{◌≡◌, ℕ, ◌<◌, ℤ, pos, negsuc, Bool, cond, List, map, slice_get, slice_index_or, Option, Some, None, IsSome, ⊤, Result, Ok, Err}
use Rattle.std.specs.List.{All}
use Rattle.std.specs.Ordering.{int_eq}
use Rattle.llb_ops.specs.declared.op.Input.{Input}
use Rattle.llb_ops.specs.declared.exec.Meta.{Meta}
use Rattle.llb_ops.specs.declared.exec.Mount.{Mount}
use Rattle.llb_ops.specs.declared.exec.CacheOpt.{CacheOpt}
use Rattle.llb_tree.specs.declared.fault.TreeFault.{TreeFault}
use Rattle.llb_tree.specs.Path.{path_of}

-- the number of the type of bind mounts
abbrev pub bind : ℤ
bind = pos 0

-- the number of the type of secret mounts
abbrev pub secret : ℤ
secret = pos 1

-- the number of the type of SSH mounts
abbrev pub ssh : ℤ
ssh = pos 2

-- the number of the type of cache mounts
abbrev pub cache : ℤ
cache = pos 3

-- the number of the type of tmpfs mounts
abbrev pub tmpfs : ℤ
tmpfs = pos 4

-- whether a mount is of this type
abbrev pub has_type : ℤ → Mount → Bool
has_type t m = int_eq m.mount_type t

-- ---- lists in which each position has a value or none

-- the value at a position of a list; none past the end
abbrev pub value_at : {X : Type 0} → List (Option X) → ℕ → Option X
value_at values a = slice_index_or values a None

-- `a` and `b` both have a value, and the two values are equal
abbrev pub Share : {X : Type 0} → Option X → Option X → Type 0
Share {X} a b = (x : X) × (a ≡ Some x) × (b ≡ Some x)

-- no value is at two different positions of a list
pub record AreApart {X : Type 0} (values : List (Option X)) : Type 0 where
  pub apart : (a b : ℕ) → a < b → ¬ Share (value_at values a) (value_at values b)

-- ---- paths

-- the path in a result; none if the result is a fault
abbrev pub value_of : Result (List (List ℕ)) TreeFault → Option (List (List ℕ))
value_of (Ok path) = Some path
value_of (Err f) = None

-- the path that a text is read as; none if the text is no path
abbrev pub read_as : List ℕ → Option (List (List ℕ))
read_as text = value_of (path_of text)

-- for each mount, the path that its dest is read as; none if the dest is no path
abbrev pub dests_of : List Mount → List (Option (List (List ℕ)))
dests_of mounts = map (λ m. read_as m.dest) mounts

-- the `cwd` of an exec can be read as a path; true if the exec has no `Meta`
abbrev pub ReadsCwd : Option Meta → Type 0
ReadsCwd (Some meta) = IsSome (read_as meta.cwd)
ReadsCwd None = ⊤

-- the dests and the selectors of the mounts, and the `cwd`, can be read as paths
pub record ReadsPaths (mounts : List Mount) (meta : Option Meta) : Type 0 where
  pub dests : All IsSome (dests_of mounts)
  pub selectors : All (λ m. IsSome (read_as m.selector)) mounts
  pub cwd : ReadsCwd meta

-- ---- caches

-- the output whose tree is the first tree of a new cache instance: the digest text of the output's op, and the output's index
pub record Seed : Type 0 where
  pub digest : List ℕ
  pub index : ℤ

-- the output that an input names
abbrev pub seed_by : Option Input → Option Seed
seed_by (Some i) = Some (record { digest = i.digest; index = i.index })
seed_by None = None

-- the seed of a cache: the output that the input with this number names; none if there is no such input, as for -1
abbrev pub seed_of : List Input → ℤ → Option Seed
seed_of inputs (pos n) = seed_by (slice_get inputs n)
seed_of inputs (negsuc n) = None

-- the key of a cache: its ID, its seed, and its sharing mode
pub record CacheKey : Type 0 where
  pub id : List ℕ
  pub seed : Option Seed
  pub mode : ℤ

-- the key with this seed, and with the ID and the sharing mode of these options; none without options
abbrev pub key_by : Option Seed → Option CacheOpt → Option CacheKey
key_by seed (Some c) = Some (record { id = c.id; seed = seed; mode = c.sharing })
key_by seed None = None

-- the options of the cache that a mount shows, if the mount is a cache mount and has options
abbrev pub cache_in : Mount → Option CacheOpt
cache_in m = cond (has_type cache m) m.cache_opt None

-- the key of the cache that a mount shows; none if the mount is no cache mount or has no options
abbrev pub key_of : List Input → Mount → Option CacheKey
key_of inputs m = key_by (seed_of inputs m.input) (cache_in m)

-- for each mount, the key of the cache that the mount shows; none if the mount is no cache mount or has no options
abbrev pub keys_of : List Input → List Mount → List (Option CacheKey)
keys_of inputs mounts = map (key_of inputs) mounts
