-- Why a command ends with status 1: the first cause, in the order in which `run` of Commands looks at the words, the entries and the mount of a call. There is
-- a cause exactly if `run` returns nothing.
use Rattle.std.specs.Prelude.{◌≡◌, ℕ, ◌+◌, ◌-◌, Bool, true, false, not, ◌&&◌, if◌then◌else◌, List, [], ◌∷◌, ◌++◌, length, take, drop}
use Rattle.std.specs.Prelude.{Option, Some, None, is_some, option_map, Result, Ok, Err}
use Rattle.std.specs.Result.{result_ok}
use Rattle.std.specs.FinMap as finite
use Rattle.llb_tree.specs.declared.fault.TreeFault.{TreeFault}
use Rattle.llb_tree.specs.declared.fault.TreeFault.TheVariants as fault
use Rattle.llb_wire.specs.declared.fault.Memory.{Memory}
use Rattle.llb_tree.specs.Path.{below}
use Rattle.llb_tree.specs.Tree as tree
use Rattle.llb_tree.specs.Tree.{Entry, TreeMap, put_file, put_dir, remove, new_dir_meta, is_dir}
use Rattle.llb_mount.specs.View.{mount_at}
use Rattle.llb_applet.specs.declared.directory_and_variables.Setting.{Setting}
use Rattle.llb_applet.specs.declared.path_in_mount.Spot.{Spot}
use Rattle.llb_applet.specs.declared.command.Kind.{Kind}
use Rattle.llb_applet.specs.declared.command.Kind.TheVariants.{Something, File, Dir}
use Rattle.llb_applet.specs.declared.command.Command.{Command}
use Rattle.llb_applet.specs.declared.command.Command.TheVariants as command
use Rattle.llb_applet.specs.declared.cause.Cause.{Cause}
use Rattle.llb_applet.specs.declared.cause.Cause.TheVariants.{Always, NoPath, At}
use Rattle.llb_applet.specs.declared.cause.What.TheVariants as what
use Rattle.llb_applet.specs.PathsInMounts.{Mounts, spot_of, tree_at, entry_at, is_dest, file_in, dirs_below}
use Rattle.llb_applet.specs.Commands.{path_by, last_name, new_meta}

-- a path, as the list of its names
abbrev pub Names : Type 0
Names = List (List ℕ)

-- ---- causes one after another

-- the first of two causes, if there is one
abbrev pub first_of : Option Cause → Option Cause → Option Cause
first_of (Some c) d = Some c
first_of None d = d

-- what `k` says of a value, if there is one; else the cause c
abbrev pub or_cause : {A : Type 0} → Option A → Cause → (A → Option Cause) → Option Cause
or_cause None c k = Some c
or_cause (Some a) c k = k a

-- what `k` says of the path that word n of a call, counted from 0, is read as; the cause `NoPath` if the word is no path
abbrev pub at_path : Setting → ℕ → List ℕ → (Names → Option Cause) → Option Cause
at_path setting n word k = or_cause (path_by setting word) (NoPath n) k

-- what `k` says of the spot that a path names; the cause `TooLong` if it names none
abbrev pub at_spot : Mounts → Names → (Spot → Option Cause) → Option Cause
at_spot view path k = or_cause (spot_of view path) (At what.TooLong path) k

-- what `k` says of the path that word n is read as, and of the spot that this path names
abbrev pub at_word : Setting → Mounts → ℕ → List ℕ → (Names → Spot → Option Cause) → Option Cause
at_word setting view n word k = at_path setting n word (λ path. at_spot view path (k path))

-- ---- what is at a path

-- the cause if nothing is at the path
abbrev pub nothing : Names → Option Entry → Option Cause
nothing path None = Some (At what.Nothing path)
nothing path (Some e) = None

-- the cause if there is no file at the path
abbrev pub no_file : Names → Option Entry → Option Cause
no_file path None = Some (At what.NoFile path)
no_file path (Some (tree.Dir m)) = Some (At what.IsDir path)
no_file path (Some (tree.File m bytes)) = None

-- the cause if there is no directory at the path
abbrev pub no_dir : Names → Option Entry → Option Cause
no_dir path None = Some (At what.NoDir path)
no_dir path (Some (tree.Dir m)) = None
no_dir path (Some (tree.File m bytes)) = Some (At what.IsFile path)

-- the cause if the entry at the path is not of the kind for which `test` asks
abbrev pub no_kind : Kind → Names → Option Entry → Option Cause
no_kind Something path e = nothing path e
no_kind File path e = no_file path e
no_kind Dir path e = no_dir path e

-- ---- changes

-- a path without its last name
abbrev pub parent : Names → Names
parent path = take (length path - 1) path

-- the cause if a directory is needed above a path and there is none: a file is at the parent, or there is no directory
abbrev pub no_parent : Option Entry → Names → Cause
no_parent entry path = if is_some (file_in entry) then At what.IsFile (parent path) else At what.NoDir (parent path)

-- the cause for a fault of putting a file or a directory at a place of a tree; the place is that of the path
abbrev pub by_fault : TreeMap → Names → Names → TreeFault → Cause
by_fault t place path fault.IsDir = At what.IsDir path
by_fault t place path fault.Root = At what.IsDir path
by_fault t place path fault.Conflict = At what.IsFile path
by_fault t place path fault.NotFound = no_parent (finite.get t (parent place)) path
by_fault t place path fault.NotDir = no_parent (finite.get t (parent place)) path
by_fault t place path fault.BadName = no_parent (finite.get t (parent place)) path
by_fault t place path fault.Memory = no_parent (finite.get t (parent place)) path

-- the cause if the tree of a mount can't be changed
abbrev pub no_change : Mounts → ℕ → Option Cause
no_change view mount = if (mount_at view mount).readonly then Some (At what.ReadOnly (mount_at view mount).dest) else None

-- the fault of an edit of a tree, if it has one
abbrev pub fault_in : Result TreeMap TreeFault → Option TreeFault
fault_in (Ok t) = None
fault_in (Err f) = Some f

-- what a call says of an edit: its fault, if it has one; or memory was refused for it
abbrev pub IsFault : Result (Option TreeFault) Memory → Result (Unit {0}) TreeFault → Type 0
IsFault r (Ok u) = r ≡ Ok None
IsFault r (Err fault.Memory) = r ≡ Err (record {})
IsFault r (Err fault.NotFound) = r ≡ Ok (Some fault.NotFound)
IsFault r (Err fault.NotDir) = r ≡ Ok (Some fault.NotDir)
IsFault r (Err fault.IsDir) = r ≡ Ok (Some fault.IsDir)
IsFault r (Err fault.Conflict) = r ≡ Ok (Some fault.Conflict)
IsFault r (Err fault.Root) = r ≡ Ok (Some fault.Root)
IsFault r (Err fault.BadName) = r ≡ Ok (Some fault.BadName)

-- the cause if an entry can't be put at the spot of a path, given the tree's fault, if it has one
abbrev pub no_edit : Mounts → Names → Spot → Option TreeFault → Option Cause
no_edit view path spot None = no_change view spot.mount
no_edit view path spot (Some f) = Some (by_fault (tree_at view spot) spot.place path f)

-- the fault of putting a file at a place of a tree, if there is one; what is put does not matter
abbrev pub file_fault : TreeMap → Names → Option TreeFault
file_fault t place = fault_in (put_file t place new_meta [])

-- the fault of putting a directory at a place of a tree, if there is one
abbrev pub dir_fault : TreeMap → Names → Option TreeFault
dir_fault t place = fault_in (put_dir t place new_dir_meta)

-- the cause if no file can be put at the spot of a path; its content and its mode and owner do not matter
abbrev pub no_file_put : Mounts → Names → Spot → Option Cause
no_file_put view path spot =
    if is_dest spot && not (is_some (entry_at view spot)) then Some (At what.NoSelector path)
    else no_edit view path spot (file_fault (tree_at view spot) spot.place)

-- the cause if the mode of the entry at the spot of a path can't be set
abbrev pub no_mode : Mounts → Names → Spot → Option Entry → Option Cause
no_mode view path spot None = Some (At what.Nothing path)
no_mode view path spot (Some (tree.Dir m)) = no_edit view path spot (dir_fault (tree_at view spot) spot.place)
no_mode view path spot (Some (tree.File m bytes)) = no_file_put view path spot

-- the cause if no new directory can be made at the spot of a path
abbrev pub no_new_dir : Mounts → Names → Spot → Option Cause
no_new_dir view path spot =
    if is_some (entry_at view spot) then Some (At what.IsThere path)
    else (if is_dest spot then Some (At what.NoSelector path) else no_edit view path spot (dir_fault (tree_at view spot) spot.place))

-- the cause if what is at and below the spot of a path can't be removed, given the tree's fault, if it has one
abbrev pub not_removed : Mounts → Names → Spot → Option TreeFault → Option Cause
not_removed view path spot None = no_change view spot.mount
not_removed view path spot (Some f) = Some (At what.Nothing path)

-- the cause if what is at and below the spot of a path can't be removed
abbrev pub no_removal : Mounts → Names → Spot → Option Cause
no_removal view path spot = if is_dest spot then Some (At what.IsDest path) else not_removed view path spot (fault_in (remove (tree_at view spot) spot.place))

-- how many of the names lead from path p to the first file on the way, if there is a file: 0 if one is at p
abbrev pub file_on : TreeMap → Names → Names → Option ℕ
file_on t p [] = if is_some (file_in (finite.get t p)) then Some 0 else None
file_on t p (n ∷ ns) = if is_some (file_in (finite.get t p)) then Some 0 else option_map (λ k. k + 1) (file_on t (p ++ n ∷ []) ns)

-- the path of the first file on the way from a mount's selector to a spot, given how many names lead to it; the cause if there is none is that of the selector
abbrev pub in_the_way : Mounts → Names → Spot → Option ℕ → Cause
in_the_way view path spot None = At what.NoSelector (mount_at view spot.mount).dest
in_the_way view path spot (Some k) = At what.IsFile (take (length (mount_at view spot.mount).dest + k) path)

-- the cause if directories can't be made down to a spot, given the tree's fault, if it has one
abbrev pub no_dirs_by : Mounts → Names → Spot → Option TreeFault → Option Cause
no_dirs_by view path spot None = no_change view spot.mount
no_dirs_by view path spot (Some f) =
    Some (in_the_way view path spot (file_on (tree_at view spot) (mount_at view spot.mount).selector (drop spot.base spot.place)))

-- the cause if there is no directory at the dest of a mount: its selector has none
abbrev pub no_dest_dir : Names → Option Entry → Option Cause
no_dest_dir path None = Some (At what.NoSelector path)
no_dest_dir path (Some e) = Some (At what.IsFile path)

-- the cause if a directory and its parents can't be made at the spot of a path
abbrev pub no_dirs : Mounts → Names → Spot → Option Cause
no_dirs view path spot =
    if is_dir (entry_at view spot) then None
    else (if is_dest spot then no_dest_dir path (entry_at view spot)
    else no_dirs_by view path spot (fault_in (dirs_below (tree_at view spot) (mount_at view spot.mount).selector (drop spot.base spot.place))))

-- ---- commands

-- the cause if nothing can be written to the file that word n names
abbrev pub not_written : Setting → Mounts → ℕ → List ℕ → Option Cause
not_written setting view n word = at_word setting view n word (no_file_put view)

-- the cause if word n names no file
abbrev pub not_read : Setting → Mounts → ℕ → List ℕ → Option Cause
not_read setting view n word = at_word setting view n word (λ path spot. no_file path (entry_at view spot))

-- the first cause if one of these words, of which the first is word n, names no file
abbrev pub none_read : Setting → Mounts → ℕ → List (List ℕ) → Option Cause
none_read setting view n [] = None
none_read setting view n (word ∷ words) = first_of (not_read setting view n word) (none_read setting view (n + 1) words)

-- the cause if a file can't be put into the directory at a path, under the last name of the source
abbrev pub not_into : Mounts → Names → Names → Option Cause
not_into view source path =
    or_cause (last_name source) (At what.IsDir path) (λ name. or_cause (result_ok (below path name)) (At what.TooLong path)
    (λ longer. at_spot view longer (no_file_put view longer)))

-- the cause if a file can't be copied to a path, or into the directory there
abbrev pub not_copied_to : Mounts → Names → Names → Option Cause
not_copied_to view source path =
    at_spot view path (λ spot. if is_dir (entry_at view spot) then not_into view source path else no_file_put view path spot)

-- the first cause if the file that the first word names can't be copied to the path that the second word names
abbrev pub not_copied : Setting → Mounts → List ℕ → List ℕ → Option Cause
not_copied setting view from to =
    at_word setting view 1 from (λ source spot. first_of (no_file source (entry_at view spot)) (at_path setting 2 to (not_copied_to view source)))

-- the number of the word that names the directory of `mkdir`
abbrev pub dir_word : Bool → ℕ
dir_word true = 2
dir_word false = 1

-- the first cause if a directory can't be made at the spot of a path, with its parents or without
abbrev pub not_made : Bool → Mounts → Names → Spot → Option Cause
not_made true view = no_dirs view
not_made false view = no_new_dir view

-- the first cause of a command's status 1; nothing if its status is 0
abbrev pub cause_of : Setting → Mounts → Command → Option Cause
cause_of setting view command.True = None
cause_of setting view command.False = Some Always
cause_of setting view (command.Mkdir parents path) = at_word setting view (dir_word parents) path (not_made parents view)
cause_of setting view (command.Rm path) = at_word setting view 1 path (no_removal view)
cause_of setting view (command.Write path word) = not_written setting view 1 path
cause_of setting view (command.Append path word) = not_written setting view 1 path
cause_of setting view (command.Cp from to) = not_copied setting view from to
cause_of setting view (command.Concat out parts) = first_of (none_read setting view 2 parts) (not_written setting view 1 out)
cause_of setting view (command.Chmod mode path) = at_word setting view 2 path (λ names spot. no_mode view names spot (entry_at view spot))
cause_of setting view (command.Test kind path) = at_word setting view 2 path (λ names spot. no_kind kind names (entry_at view spot))
cause_of setting view (command.Listing path out) =
    first_of (at_word setting view 1 path (λ names spot. no_dir names (entry_at view spot))) (not_written setting view 2 out)
cause_of setting view (command.Envfile out) = not_written setting view 1 out
cause_of setting view (command.Sha256 path out) = first_of (not_read setting view 1 path) (not_written setting view 2 out)
