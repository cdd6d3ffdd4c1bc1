-- Why a file action is refused: the first thing that is wrong, in the order in which `act` of FileActions looks at the texts, at the sources and at the
-- entries. An action has a refusal exactly if `act` returns a fault, and `fault_of` is that fault.
use Rattle.std.specs.Prelude.{ℕ, Bool, false, nat_lt, List, [], ◌∷◌, length, map, Option, Some, None, Result, Ok, Err, if◌then◌else◌}
use Rattle.std.specs.Result.{result_ok}
use Rattle.std.specs.FinMap as finite
use Rattle.llb_ops.specs.declared.file_op.ActionKind.{ActionKind}
use Rattle.llb_ops.specs.declared.file_op.ActionKind.TheVariants as kind
use Rattle.llb_ops.specs.declared.actions.MkFile as file
use Rattle.llb_ops.specs.declared.actions.MkDir as dir
use Rattle.llb_ops.specs.declared.actions.CopyFile.{CopyFile}
use Rattle.llb_ops.specs.declared.actions.Rm.{Rm}
use Rattle.llb_tree.specs.Path.{path_of}
use Rattle.llb_tree.specs.Tree as tree
use Rattle.llb_tree.specs.Tree.{TreeMap, Entry, parents}
use Rattle.llb_tree.specs.declared.fault.TreeFault.{TreeFault}
use Rattle.llb_tree.specs.declared.fault.TreeFault.TheVariants as fault
use Rattle.llb_glob.specs.declared.item.Item.{Item}
use Rattle.llb_glob.specs.Pattern.{pattern_of}
use Rattle.llb_fileop.specs.declared.fault.ActFault.{ActFault}
use Rattle.llb_fileop.specs.declared.fault.ActFault.TheVariants.{File, BadPattern}
use Rattle.llb_fileop.specs.declared.refusal.Field.{Field}
use Rattle.llb_fileop.specs.declared.refusal.Field.TheVariants as field
use Rattle.llb_fileop.specs.declared.refusal.Obstacle.{Obstacle}
use Rattle.llb_fileop.specs.declared.refusal.Obstacle.TheVariants as obstacle
use Rattle.llb_fileop.specs.declared.refusal.Refusal.{Refusal}
use Rattle.llb_fileop.specs.declared.refusal.Refusal.TheVariants.{NotPath, NotPattern, NoMatch, Root, At}
use Rattle.llb_fileop.specs.Removing.{matching}
use Rattle.llb_fileop.specs.Copying.{resolved, target, at_target, copy_one}
use Rattle.llb_fileop.specs.CopyPlacement.{placed}

-- a path, as the list of its names
abbrev pub Names : Type 0
Names = List (List ℕ)

-- ---- faults

-- the fault of a tree at a path where this is wrong
abbrev pub obstacle_fault : Obstacle → TreeFault
obstacle_fault obstacle.Nothing = fault.NotFound
obstacle_fault obstacle.NoSource = fault.NotFound
obstacle_fault obstacle.NoDir = fault.NotFound
obstacle_fault obstacle.FileAbove = fault.NotDir
obstacle_fault obstacle.IsDir = fault.IsDir
obstacle_fault obstacle.IsFile = fault.Conflict
obstacle_fault obstacle.DirReplaced = fault.Conflict
obstacle_fault obstacle.TooLong = fault.BadName

-- the fault of an action that is refused for this
abbrev pub fault_of : Refusal → ActFault
fault_of (NotPath text) = File fault.BadName
fault_of (NotPattern text) = BadPattern
fault_of (NoMatch text) = File fault.NotFound
fault_of Root = File fault.Root
fault_of (At what path) = File (obstacle_fault what)

-- the fault in a result, if it is one
abbrev pub fault_in : {A E : Type 0} → Result A E → Option E
fault_in (Ok x) = None
fault_in (Err e) = Some e

-- ---- refusals one after another

-- the first refusal of a list, if there is one
abbrev pub first_some : List (Option Refusal) → Option Refusal
first_some [] = None
first_some (Some r ∷ os) = Some r
first_some (None ∷ os) = first_some os

-- the first of two refusals, if there is one
abbrev pub first_of : Option Refusal → Option Refusal → Option Refusal
first_of (Some r) other = Some r
first_of None other = other

-- what `k` says of a value, if there is one; else the refusal r
abbrev pub or_refusal : {A : Type 0} → Option A → Refusal → (A → Option Refusal) → Option Refusal
or_refusal None r k = Some r
or_refusal (Some a) r k = k a

-- ---- parents

-- what is wrong at a path that has to be a directory, or that is made one if nothing is there (`made`)
abbrev pub not_dir : Bool → Names → Option Entry → Option Refusal
not_dir made p None = if made then None else Some (At obstacle.NoDir p)
not_dir made p (Some (tree.Dir m)) = None
not_dir made p (Some (tree.File m bytes)) = Some (At obstacle.FileAbove p)

-- the first of these paths, which have to be directories of a tree, at which something is wrong
abbrev pub no_dirs : Bool → TreeMap → List Names → Option Refusal
no_dirs made t ps = first_some (map (λ p. not_dir made p (finite.get t p)) ps)

-- the first parent of a path, from the root down, at which something is wrong
abbrev pub no_parent : Bool → TreeMap → Names → Option Refusal
no_parent made t p = no_dirs made t (parents p)

-- ---- making

-- what is wrong with the root as the path of a file
abbrev pub at_root : Names → Option Refusal
at_root [] = Some Root
at_root (n ∷ p) = None

-- what is wrong at a path where a file is made
abbrev pub dir_there : Names → Option Entry → Option Refusal
dir_there p None = None
dir_there p (Some (tree.Dir m)) = Some (At obstacle.IsDir p)
dir_there p (Some (tree.File m bytes)) = None

-- why no file can be made at a path
abbrev pub no_file_put : TreeMap → Names → Option Refusal
no_file_put t p = first_of (at_root p) (first_of (no_parent false t p) (dir_there p (finite.get t p)))

-- why an `mkfile` action is refused
abbrev pub mkfile_refusal : file.MkFile → TreeMap → Option Refusal
mkfile_refusal m t = or_refusal (result_ok (path_of m.path)) (NotPath field.Path) (no_file_put t)

-- why no directory can be made at a path, given what is there; a directory that is there stays, whatever its parents are
abbrev pub no_dir_put : Bool → TreeMap → Names → Option Entry → Option Refusal
no_dir_put made t p None = no_parent made t p
no_dir_put made t p (Some (tree.Dir m)) = None
no_dir_put made t p (Some (tree.File m bytes)) = first_of (no_parent made t p) (Some (At obstacle.IsFile p))

-- why an `mkdir` action is refused
abbrev pub mkdir_refusal : dir.MkDir → TreeMap → Option Refusal
mkdir_refusal m t = or_refusal (result_ok (path_of m.path)) (NotPath field.Path) (λ p. no_dir_put m.make_parents t p (finite.get t p))

-- ---- removing

-- what is wrong at a path that is removed; nothing has to be there if `allowed` is true
abbrev pub nothing_there : Bool → Names → Option Entry → Option Refusal
nothing_there allowed p None = if allowed then None else Some (At obstacle.Nothing p)
nothing_there allowed p (Some e) = None

-- why a path can't be removed
abbrev pub no_removal : Bool → TreeMap → Names → Option Refusal
no_removal allowed t p = first_of (at_root p) (nothing_there allowed p (finite.get t p))

-- what is wrong if these paths match a text; no path has to match if `allowed` is true
abbrev pub no_match : Field → Bool → List Names → Option Refusal
no_match text allowed [] = if allowed then None else Some (NoMatch text)
no_match text allowed (p ∷ ps) = None

-- why the paths that match a pattern can't be removed; a pattern without parts matches the root
abbrev pub no_removals : Bool → TreeMap → List (List Item) → Option Refusal
no_removals allowed t [] = Some Root
no_removals allowed t (part ∷ parts) = no_match field.Path allowed (matching (part ∷ parts) t)

-- why an `rm` action is refused
abbrev pub rm_refusal : Rm → TreeMap → Option Refusal
rm_refusal r t =
    if r.allow_wildcard then or_refusal (result_ok (pattern_of r.path)) (NotPattern field.Path) (no_removals r.allow_not_found t)
    else or_refusal (result_ok (path_of r.path)) (NotPath field.Path) (no_removal r.allow_not_found t)

-- ---- copying

-- what is wrong at a path to which an entry is copied, given what is there
abbrev pub no_meeting : Names → Option Entry → Entry → Option Refusal
no_meeting p None e = None
no_meeting p (Some (tree.Dir m)) (tree.Dir n) = None
no_meeting p (Some (tree.Dir m)) (tree.File n bytes) = Some (At obstacle.DirReplaced p)
no_meeting p (Some (tree.File m old)) (tree.Dir n) = Some (At obstacle.IsFile p)
no_meeting p (Some (tree.File m old)) (tree.File n bytes) = None

-- why an entry, which belongs to the source s, can't be put at its new path
abbrev pub no_landing : Names → TreeMap → Names × Entry → Option Refusal
no_landing s t e = if nat_lt 128 (length e.0) then Some (At obstacle.TooLong s) else no_meeting e.0 (finite.get t e.0) e.1

-- why the first of these entries that can't be put at its new path can't be put there
abbrev pub no_landings : Names → TreeMap → List (Names × Entry) → Option Refusal
no_landings s t es = first_some (map (no_landing s t) es)

-- why a source can't be copied to the target `goal`: a parent of the target, or else the first entry that can't be put at its new path
abbrev pub no_copy_to : CopyFile → TreeMap → Names → TreeMap → Names → Option Refusal
no_copy_to c second s t goal = first_of (no_parent c.create_dest_path t goal) (no_landings s t (at_target second s goal))

-- why a source can't be copied to its target
abbrev pub no_copy : CopyFile → Names × Bool → TreeMap → Names → TreeMap → Option Refusal
no_copy c dest second s t = or_refusal (result_ok (placed (target c dest second s t))) (At obstacle.TooLong s) (no_copy_to c second s t)

-- what `k` says of the tree that an edit makes; if the edit is refused, the refusal `r`
abbrev pub refused_or : Result TreeMap TreeFault → Option Refusal → (TreeMap → Option Refusal) → Option Refusal
refused_or (Ok u) r k = k u
refused_or (Err f) r k = r

-- why the first of these sources whose copy is refused can't be copied, on the tree after the copies of the sources before it
abbrev pub no_copies : CopyFile → Names × Bool → TreeMap → List Names → TreeMap → Option Refusal
no_copies c dest second [] t = None
no_copies c dest second (s ∷ ss) t = refused_or (copy_one c dest second s t) (no_copy c dest second s t) (no_copies c dest second ss)

-- why one path of the second tree can't be copied, given what is there
abbrev pub no_path_copy : CopyFile → Names × Bool → TreeMap → Names → TreeMap → Option Entry → Option Refusal
no_path_copy c dest second s t None = Some (At obstacle.NoSource s)
no_path_copy c dest second s t (Some e) = no_copy c dest second s t

-- why what is chosen of the second tree can't be copied: nothing matches, or the first source whose copy is refused
abbrev pub no_match_copy : CopyFile → Names × Bool → TreeMap → List Names → TreeMap → Option Refusal
no_match_copy c dest second ss t = first_of (no_match field.Source c.allow_empty_wildcard ss) (no_copies c dest second ss t)

-- what `k` says of the destination of a copy; the refusal if its text is no path
abbrev pub at_dest : CopyFile → (Names × Bool → Option Refusal) → Option Refusal
at_dest c k = or_refusal (result_ok (resolved c.dest)) (NotPath field.Dest) k

-- why a copy is refused
abbrev pub copy_refusal : CopyFile → TreeMap → TreeMap → Option Refusal
copy_refusal c t second =
    if c.allow_wildcard then or_refusal (result_ok (pattern_of c.src)) (NotPattern field.Source)
    (λ pattern. at_dest c (λ dest. no_match_copy c dest second (matching pattern second) t))
    else or_refusal (result_ok (path_of c.src)) (NotPath field.Source)
    (λ s. at_dest c (λ dest. no_path_copy c dest second s t (finite.get second s)))

-- ---- actions

-- why an action on the tree t is refused; nothing if it is not
abbrev pub refusal_of : Option ActionKind → TreeMap → TreeMap → Option Refusal
refusal_of (Some (kind.MkFile m)) t second = mkfile_refusal m t
refusal_of (Some (kind.MkDir m)) t second = mkdir_refusal m t
refusal_of (Some (kind.Copy c)) t second = copy_refusal c t second
refusal_of (Some (kind.Rm r)) t second = rm_refusal r t
refusal_of None t second = None
