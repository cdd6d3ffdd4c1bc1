-- The order of keys, in which rows are searched for a key.
use Rattle.std.specs.Prelude.{ℕ}
use Rattle.std.specs.declared.cmp.Ordering.{Ordering}
use Rattle.std.specs.Ordering.{ordering_then, nat_cmp}
use Rattle.std.specs.Option.{option_cmp}
use Rattle.std.specs.Cmp.Lexicographic.{slice_cmp}
use Rattle.llb_cache.specs.declared.key.Key.{Key}
use Rattle.llb_cache.specs.declared.key.Seed.{Seed}
use Rattle.llb_cache.specs.declared.key.Mode.{Mode}
use Rattle.llb_cache.specs.declared.key.Mode.TheVariants.{Shared, Private, Locked}

-- the position of a mode in the order shared, private, locked
abbrev pub mode_place : Mode → ℕ
mode_place Shared = 0
mode_place Private = 1
mode_place Locked = 2

-- the order of seeds: by digest text, then by index
abbrev pub seed_cmp : Seed → Seed → Ordering
seed_cmp a b = ordering_then (slice_cmp nat_cmp a.digest b.digest) (nat_cmp a.index b.index)

-- the order of keys: by ID, then by mode, then by seed; a key without a seed comes before those with one
unfoldable pub key_cmp : Key → Key → Ordering
key_cmp a b = ordering_then (ordering_then (slice_cmp nat_cmp a.id b.id) (nat_cmp (mode_place a.mode) (mode_place b.mode))) (option_cmp seed_cmp a.seed b.seed)
