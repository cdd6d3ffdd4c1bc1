-- The spot that a path names on a view, and the changes of a view at a spot. A view is the list of its mounts; the result of a refused change is nothing.
use Rattle.std.specs.Prelude.{◌≡◌, ℕ, ◌<◌, ◌≤◌, ◌==◌, nat_lt, Bool, true, false, ◌||◌, ◌&&◌, not, if◌then◌else◌, List, [], ◌∷◌, ◌++◌}
use Rattle.std.specs.Prelude.{length, drop, Option, Some, None, is_some, Result, Ok, Err}
use Rattle.std.specs.FinMap as finite
use Rattle.llb_wire.specs.CallResults as answer
use Rattle.llb_tree.specs.declared.fault.TreeFault.{TreeFault}
use Rattle.llb_tree.specs.Tree as tree
use Rattle.llb_tree.specs.Tree.{Entry, TreeMap, MetaValue, new_dir_meta, put_file, put_dir, remove, is_dir}
use Rattle.llb_mount.specs.declared.shown_tree.Shown.{Shown}
use Rattle.llb_mount.specs.View.{mount_at, with_tree_of}
use Rattle.llb_mount.specs.Route.{route, place_in}
use Rattle.llb_applet.specs.declared.path_in_mount.Spot.{Spot}

-- a view, as the list of its mounts
abbrev pub Mounts : Type 0
Mounts = List Shown

-- the spot that a path names: the mount that the path leads to, and a path in this mount's tree. This second path is the mount's selector, then the names of
-- the first path that follow the mount's dest. Nothing if the path in the tree has more than 128 names.
abbrev pub spot_of : Mounts → List (List ℕ) → Option Spot
spot_of view path =
    let to = route view path in
    let selector = (mount_at view to.0).selector in
    let place = place_in selector to.1 path in
    if nat_lt 128 (length place) then None else Some (record { mount = to.0; base = length selector; place = place })

-- a spot is in one of the mounts, at or below the mount's selector
pub record IsSpot (view : Mounts) (spot : Spot) : Type 0 where
  pub mount : spot.mount < length view
  pub base : spot.base ≡ length (mount_at view spot.mount).selector
  pub below : spot.base ≤ length spot.place

-- the tree of a spot's mount
abbrev pub tree_at : Mounts → Spot → TreeMap
tree_at view spot = (mount_at view spot.mount).tree

-- the entry at a spot
abbrev pub entry_at : Mounts → Spot → Option Entry
entry_at view spot = finite.get (tree_at view spot) spot.place

-- whether a spot is the spot that a mount's dest names
abbrev pub is_dest : Spot → Bool
is_dest spot = length spot.place == spot.base

-- the mode and owner of a file, and its content; nothing if there is no file
abbrev pub file_in : Option Entry → Option (MetaValue × List ℕ)
file_in None = None
file_in (Some (tree.Dir m)) = None
file_in (Some (tree.File m bytes)) = Some (m, bytes)

-- the tree of a spot's mount may be changed: the mount is not read-only
abbrev pub IsWritable : Mounts → Spot → Type 0
IsWritable view spot = (mount_at view spot.mount).readonly ≡ false

-- the view after a change of a mount's tree; nothing if the change is refused or the mount is read-only
abbrev pub with_change : Mounts → ℕ → Result TreeMap TreeFault → Option Mounts
with_change view mount (Ok t) = if (mount_at view mount).readonly then None else Some (with_tree_of view mount t)
with_change view mount (Err e) = None

-- the view after a file is put at a spot; nothing if the change is refused, or if the spot is a mount's dest and there is no entry at it
abbrev pub with_file : Mounts → Spot → MetaValue → List ℕ → Option Mounts
with_file view spot meta content =
    if is_dest spot && not (is_some (entry_at view spot)) then None
    else with_change view spot.mount (put_file (tree_at view spot) spot.place meta content)

-- the view after a directory with this mode and owner is put at a spot; nothing if the change is refused
abbrev pub with_dir : Mounts → Spot → MetaValue → Option Mounts
with_dir view spot meta = with_change view spot.mount (put_dir (tree_at view spot) spot.place meta)

-- the view after what is at and below a spot is removed; nothing if the spot is a mount's dest, or if the change is refused
abbrev pub without_spot : Mounts → Spot → Option Mounts
without_spot view spot = if is_dest spot then None else with_change view spot.mount (remove (tree_at view spot) spot.place)

-- the view after a new directory is made at a spot; nothing if the spot is a mount's dest, if there is an entry at it, or if the change is refused
abbrev pub with_new_dir : Mounts → Spot → Option Mounts
with_new_dir view spot = if is_dest spot || is_some (entry_at view spot) then
    None else with_change view spot.mount (put_dir (tree_at view spot) spot.place new_dir_meta)

-- the tree after a directory is made at a path, unless a directory is already there; or the fault
abbrev pub dir_at : TreeMap → List (List ℕ) → Result TreeMap TreeFault
dir_at t p = if is_dir (finite.get t p) then Ok t else put_dir t p new_dir_meta

-- the tree after the directories p/a, p/a/b, p/a/b/c .. for the names a, b, c .. are made, apart from those that are there already; or the first fault
abbrev pub dirs_below : TreeMap → List (List ℕ) → List (List ℕ) → Result TreeMap TreeFault
dirs_below t p [] = Ok t
dirs_below t p (n ∷ ns) = answer.◌>>=◌ (dir_at t (p ++ n ∷ [])) (λ next. dirs_below next (p ++ n ∷ []) ns)

-- the tree after a new directory is put at a path p, and below it the directories that `dirs_below` makes for these names
abbrev pub put_then_below : TreeMap → List (List ℕ) → List (List ℕ) → Result TreeMap TreeFault
put_then_below t p ns = answer.◌>>=◌ (put_dir t p new_dir_meta) (λ next. dirs_below next p ns)

-- the view after a directory is made at a spot, with its missing parents below the dest, unless a directory is already there; nothing if the change is refused
abbrev pub with_dirs : Mounts → Spot → Option Mounts
with_dirs view spot =
    if is_dir (entry_at view spot) then Some view
    else (if is_dest spot then None
    else with_change view spot.mount (dirs_below (tree_at view spot) (mount_at view spot.mount).selector (drop spot.base spot.place)))
