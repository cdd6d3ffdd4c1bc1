-- Two keys of caches are the same if their IDs, their seeds and their modes are equal.
use Rattle.std.specs.Prelude.{ℕ, Bool, true, false, not, ◌&&◌, ◌||◌, ◌==◌, List, length, Option, Some, None, nat_eq}
use Rattle.std.specs.Cmp.Lexicographic.{pointwise}
use Rattle.llb_cache.specs.declared.key.Key.{Key}
use Rattle.llb_cache.specs.declared.key.Seed.{Seed}
use Rattle.llb_cache.specs.declared.key.Mode.{Mode}
use Rattle.llb_cache.specs.declared.key.Mode.TheVariants.{Shared, Private, Locked}

-- whether two modes are equal
abbrev pub same_mode : Mode → Mode → Bool
same_mode Shared Shared = true
same_mode Shared Private = false
same_mode Shared Locked = false
same_mode Private Shared = false
same_mode Private Private = true
same_mode Private Locked = false
same_mode Locked Shared = false
same_mode Locked Private = false
same_mode Locked Locked = true

-- whether two seeds have the same digest text and the same index
abbrev pub same_seed : Seed → Seed → Bool
same_seed s t = (s.index == t.index) && pointwise nat_eq s.digest t.digest

-- whether both seeds are missing, or neither is missing and they are the same
abbrev pub same_seeds : Option Seed → Option Seed → Bool
same_seeds None None = true
same_seeds None (Some t) = false
same_seeds (Some s) None = false
same_seeds (Some s) (Some t) = same_seed s t

-- the seed with this digest text and this output index
abbrev pub seed_by : List ℕ → ℕ → Seed
seed_by digest index = record { digest = digest; index = index }

-- whether there is a seed, and its digest text is not empty
abbrev pub has_digest : Option Seed → Bool
has_digest (Some s) = not (length s.digest == 0)
has_digest None = false

-- whether the ID of a key, or the digest text of its seed, is not empty, so that a copy of the key takes memory
abbrev pub has_text : Key → Bool
has_text k = not (length k.id == 0) || has_digest k.seed

-- whether two keys are equal in mode, seed and ID
unfoldable pub same_key : Key → Key → Bool
same_key k l = same_mode k.mode l.mode && same_seeds k.seed l.seed && pointwise nat_eq k.id l.id
