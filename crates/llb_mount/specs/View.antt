-- A view as the list of its mounts: which lists are views, and which mount has a given number.
-- A view changes only in that one of its mounts gets another tree.
use Rattle.std.specs.Prelude.{◌≢◌, ℕ, ◌<◌, ◌^◌, false, List, [], map, length, slice_index_or, slice_set, Contains, AllPairs}
use Rattle.llb_tree.specs.Tree.{TreeMap, empty_tree}
use Rattle.llb_mount.specs.declared.shown_tree.Shown.{Shown}

-- the dests of the mounts, by number
abbrev pub dests : List Shown → List (List (List ℕ))
dests mounts = map (λ m. m.dest) mounts

-- the dest of one mount is the root, no two mounts have the same dest, and each mount's number fits into 32 bits
pub record IsView (mounts : List Shown) : Type 0 where
  pub root : Contains (dests mounts) []
  pub differ : AllPairs (λ d e. d ≢ e) (dests mounts)
  pub few : length mounts < 2 ^ 32

-- the mount that `mount_at` returns for a number that no mount has
abbrev pub no_mount : Shown
no_mount = record { dest = []; selector = []; readonly = false; tree = empty_tree }

-- the mount with this number; `no_mount` if there is none
abbrev pub mount_at : List Shown → ℕ → Shown
mount_at mounts number = slice_index_or mounts number no_mount

-- the mounts, with `tree` in place of the tree of the mount with this number
abbrev pub with_tree_of : List Shown → ℕ → TreeMap → List Shown
with_tree_of mounts number tree = slice_set mounts number (record (mount_at mounts number) { tree = tree })
