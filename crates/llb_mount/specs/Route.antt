-- The mount that a path leads to: the mount with the longest dest that is a prefix of the path. A dest is a prefix by names, so `/t`
-- is not a prefix of `/tx`.
use Rattle.std.specs.Prelude.{◌≡◌, ℕ, ◌<◌, ◌≤◌, nat_eq, max, true, if◌then◌else◌, List, [], ◌∷◌, ◌++◌, length, take, drop}
use Rattle.std.specs.List.{All, position_or_len}
use Rattle.std.specs.Cmp.Lexicographic.{pointwise}
use Rattle.llb_tree.specs.Path.{is_within}
use Rattle.llb_mount.specs.declared.shown_tree.Shown.{Shown}
use Rattle.llb_mount.specs.View.{dests, mount_at}

-- how many names the longest dest that is a prefix of a path has; 0 if no dest is a prefix
abbrev pub greatest_length : List (List (List ℕ)) → List (List ℕ) → ℕ
greatest_length [] path = 0
greatest_length (d ∷ ds) path = if is_within d path then max (length d) (greatest_length ds path) else greatest_length ds path

-- the position of the first dest that equals this path; the number of dests if no dest equals the path
abbrev pub number_of : List (List (List ℕ)) → List (List ℕ) → ℕ
number_of ds path = position_or_len (λ d. pointwise (pointwise nat_eq) d path) ds

-- the number of the mount with the longest dest that is a prefix of a path, and how many names that dest has
abbrev pub route : List Shown → List (List ℕ) → ℕ × ℕ
route mounts path = let n = greatest_length (dests mounts) path in (number_of (dests mounts) (take n path), n)

-- `to` is a mount's number and how many names the mount's dest has; of the dests that are prefixes of the path, this dest is the longest
pub record IsRoute (mounts : List Shown) (path : List (List ℕ)) (to : ℕ × ℕ) : Type 0 where
  pub there : to.0 < length mounts
  pub prefix : is_within (mount_at mounts to.0).dest path ≡ true
  pub dropped : length (mount_at mounts to.0).dest ≡ to.1
  pub longest : All (λ m. is_within m.dest path ≡ true → length m.dest ≤ to.1) mounts

-- the path in a mount's tree: the mount's selector, followed by the path without its first `dropped` names
abbrev pub place_in : List (List ℕ) → ℕ → List (List ℕ) → List (List ℕ)
place_in selector dropped path = selector ++ drop dropped path
