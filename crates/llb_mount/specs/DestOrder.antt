-- The order of dests: a row for each mount, with the mount's number and the position of the longest other dest that is a prefix of the mount's dest.
use Rattle.std.specs.Prelude.{◌≡◌, ℕ, ◌<◌, ◌≤◌, Bool, true, false, List, [], length, slice_index_or}
use Rattle.std.specs.Ordering.{is_lt}
use Rattle.llb_tree.specs.Path.{path_cmp, is_within}
use Rattle.llb_mount.specs.declared.dest_order.Row.{Row}

-- the row that `mount_of` and `above_of` use for a position that has no row
abbrev pub no_row : Row
no_row = record { mount = 0; above = 0 }

-- the number of the mount to which the row at a position belongs
abbrev pub mount_of : List Row → ℕ → ℕ
mount_of rows j = (slice_index_or rows j no_row).mount

-- the position of the longest other dest that is a prefix of the dest at position j
abbrev pub above_of : List Row → ℕ → ℕ
above_of rows j = (slice_index_or rows j no_row).above

-- the dest at a position: the dest of the mount in the row at that position
abbrev pub dest_of : List (List (List ℕ)) → List Row → ℕ → List (List ℕ)
dest_of ds rows j = slice_index_or ds (mount_of rows j) []

-- whether a path comes before another
abbrev pub is_before : List (List ℕ) → List (List ℕ) → Bool
is_before p q = is_lt (path_cmp p q)

-- each row has the number of a mount (an index into `ds`, the mounts' dests), and from each row to the next the dests of these mounts ascend
pub record Rises (ds : List (List (List ℕ))) (rows : List Row) : Type 0 where
  pub within : (j : ℕ) → j < length rows → mount_of rows j < length ds
  pub rising : (j k : ℕ) → j < k → k < length rows → is_before (dest_of ds rows j) (dest_of ds rows k) ≡ true

-- the mounts that have rows are exactly those with numbers below `count`
pub record HasFirst (count : ℕ) (rows : List Row) : Type 0 where
  pub within : (j : ℕ) → j < length rows → mount_of rows j < count
  pub each : (i : ℕ) → i < count → (j : ℕ) × (j < length rows) × (mount_of rows j ≡ i)

-- each dest at a position before `place` is the path or comes before it, and each dest at or after position `place` comes after the path
pub record IsPlace (ds : List (List (List ℕ))) (rows : List Row) (path : List (List ℕ)) (place : ℕ) : Type 0 where
  pub within : place ≤ length rows
  pub before : (j : ℕ) → j < place → is_before path (dest_of ds rows j) ≡ false
  pub behind : (j : ℕ) → place ≤ j → j < length rows → is_before path (dest_of ds rows j) ≡ true

-- the first dest is the root
pub record AtRoot (ds : List (List (List ℕ))) (rows : List Row) : Type 0 where
  pub there : 0 < length rows
  pub root : dest_of ds rows 0 ≡ []

-- the position `above_of rows j` is before j, and is k or after k; the dest at k is a prefix of the dest at that position
pub record IsAbove (ds : List (List (List ℕ))) (rows : List Row) (j k : ℕ) : Type 0 where
  pub up : above_of rows j < j
  pub kept : k ≤ above_of rows j
  pub within : is_within (dest_of ds rows k) (dest_of ds rows (above_of rows j)) ≡ true

-- for each j below `count` and each earlier position k whose dest is a prefix of the dest at j: `IsAbove` holds, so going up from j (`above_of`) never skips k
abbrev pub Climbs : List (List (List ℕ)) → List Row → ℕ → Type 0
Climbs ds rows count = (j k : ℕ) → k < j → j < count → is_within (dest_of ds rows k) (dest_of ds rows j) ≡ true → IsAbove ds rows j k

-- `at` is below `count`; for each k below `count`, if the dest at k is a prefix of the path, then k ≤ `at`, and the dest at k is a prefix of the dest at `at`
pub record IsNear (ds : List (List (List ℕ))) (rows : List Row) (count : ℕ) (path : List (List ℕ)) (at : ℕ) : Type 0 where
  pub there : at < count
  pub kept : (k : ℕ) → k < count → is_within (dest_of ds rows k) path ≡ true → k ≤ at
  pub within : (k : ℕ) → k < count → is_within (dest_of ds rows k) path ≡ true → is_within (dest_of ds rows k) (dest_of ds rows at) ≡ true

-- the rows have all mounts in the order of their dests, the root first, and for each dest the position of the longest other dest that is its prefix
pub record IsOrder (ds : List (List (List ℕ))) (rows : List Row) : Type 0 where
  pub rises : Rises ds rows
  pub all : HasFirst (length ds) rows
  pub root : AtRoot ds rows
  pub climbs : Climbs ds rows (length rows)
