-- The tree after sources in a second tree are copied to a destination, or the first fault. Each source has a target, and each
-- entry at or below the source is copied to the target's path followed by the names that the entry's path has after the source.
use Rattle.std.specs.Prelude.{ℕ, ◌-◌, Bool, true, false, ◌||◌, ◌&&◌, nat_eq, nat_lt, List, [], ◌∷◌, ◌++◌, length, drop, map, Option, Some}
use Rattle.std.specs.Prelude.{None, Result, Ok, Err, if◌then◌else◌}
use Rattle.std.specs.List.{ends_with}
use Rattle.std.specs.FinMap as finite
use Rattle.std.specs.FinMap.Entries.{where_key}
use Rattle.llb_wire.specs.CallResults.{◌>>=◌}
use Rattle.llb_ops.specs.declared.actions.CopyFile.{CopyFile}
use Rattle.llb_tree.specs.Path.{path_cmp, path_of, is_within}
use Rattle.llb_tree.specs.Tree.{TreeMap, Entry, Dir, File, parents, walk, moved, found, new_dir_meta, is_dir}
use Rattle.llb_tree.specs.ModeAndOwner.{MetaValue}
use Rattle.llb_tree.specs.declared.fault.TreeFault.{TreeFault}
use Rattle.llb_tree.specs.declared.fault.TreeFault.TheVariants.{NotFound, Conflict, BadName}
use Rattle.llb_glob.specs.declared.item.Item.{Item}
use Rattle.llb_glob.specs.Pattern.{pattern_of}
use Rattle.llb_fileop.specs.declared.fault.ActFault.{ActFault}
use Rattle.llb_fileop.specs.CallResults.{on_tree, on_pattern}
use Rattle.llb_fileop.specs.Owners.{copied}
use Rattle.llb_fileop.specs.Making.{make_all}
use Rattle.llb_fileop.specs.Removing.{matching}

-- the path that a text reads as, and whether the text ends in `/`
abbrev pub resolved : List ℕ → Result (List (List ℕ) × Bool) TreeFault
resolved text = path_of text >>= λ p. Ok (p, ends_with nat_eq text (47 ∷ []))

-- ---- the sources

-- what is copied: one path, or each path that matches a pattern
pub data Chosen : Type 0 where
  OnePath : List (List ℕ) → Chosen
  EachMatch : List (List Item) → Chosen

-- what a copy's source text reads as: a pattern if wildcards are allowed, else a path
abbrev pub chosen_by : CopyFile → Result Chosen ActFault
chosen_by c =
    if c.allow_wildcard then (on_pattern (pattern_of c.src) >>= λ pattern. Ok (EachMatch pattern))
    else (on_tree (path_of c.src) >>= λ p. Ok (OnePath p))

-- these paths; but if there are none, and the flag (the action's `allowEmptyWildcard`) is false, the fault `NotFound`
abbrev pub some_match : Bool → List (List (List ℕ)) → Result (List (List (List ℕ))) TreeFault
some_match true ps = Ok ps
some_match false [] = Err NotFound
some_match false (p ∷ ps) = Ok (p ∷ ps)

-- the paths that are copied, in path order: the one path, at which something must be, or all paths that match, at least one unless `allow_empty` is true
abbrev pub sources : Bool → TreeMap → Chosen → Result (List (List (List ℕ))) TreeFault
sources allow_empty second (OnePath p) = found (finite.get second p) >>= λ _. Ok (p ∷ [])
sources allow_empty second (EachMatch pattern) = some_match allow_empty (matching pattern second)

-- ---- the target of a source

-- the last name of a path, as a list; the root has none
abbrev pub last_name : List (List ℕ) → List (List ℕ)
last_name p = drop (length p - 1) p

-- The target of a source. If the source is a directory of which only the contents are copied (`dirCopyContents`), the target is the destination. Else, if the
-- destination's text ends in `/` or a directory is at the destination, the target is the destination and the source's last name. Else it is the destination.
abbrev pub target : CopyFile → List (List ℕ) × Bool → TreeMap → List (List ℕ) → TreeMap → List (List ℕ)
target c dest second s t =
    if c.dir_copy_contents && is_dir (finite.get second s) then dest.0
    else (if dest.1 || is_dir (finite.get t dest.0) then dest.0 ++ last_name s else dest.0)

-- ---- where the entries of a source go

-- fails with `BadName` if a path has more than 128 names; else succeeds
abbrev pub fits : List (List ℕ) → Result (Unit {0}) TreeFault
fits p = if nat_lt 128 (length p) then Err BadName else Ok tt

-- fails with `Conflict` if a file would replace a directory, or a directory would replace a file; else succeeds
abbrev pub meets : Option Entry → Entry → Result (Unit {0}) TreeFault
meets None e = Ok tt
meets (Some (Dir m)) (Dir n) = Ok tt
meets (Some (Dir m)) (File n bytes) = Err Conflict
meets (Some (File m old)) (Dir n) = Err Conflict
meets (Some (File m old)) (File n bytes) = Ok tt

-- succeeds if each of these entries can be put at its path in the tree `t`; else fails with the fault of the first entry that can't
abbrev pub all_land : TreeMap → List (List (List ℕ) × Entry) → Result (Unit {0}) TreeFault
all_land t [] = Ok tt
all_land t (e ∷ es) = fits e.0 >>= λ _. meets (finite.get t e.0) e.1 >>= λ _. all_land t es

-- the entry at a path after a copied entry is put there; if a directory is copied onto a directory, the directory that was there stays as it is
abbrev pub landed : (MetaValue → MetaValue) → Option Entry → Entry → Entry
landed given (Some (Dir m)) (Dir n) = Dir m
landed given (Some (File m old)) (Dir n) = Dir (given n)
landed given None (Dir n) = Dir (given n)
landed given there (File n bytes) = File (given n) bytes

-- the path of a copied entry, with the entry that is there after the copy
abbrev pub landed_on : (MetaValue → MetaValue) → TreeMap → List (List ℕ) × Entry → List (List ℕ) × Entry
landed_on given t e = (e.0, landed given (finite.get t e.0) e.1)

-- the tree after copied entries are put at their paths
abbrev pub laid_on : (MetaValue → MetaValue) → TreeMap → List (List (List ℕ) × Entry) → TreeMap
laid_on given t es = finite.from_entries (map (landed_on given t) es ++ finite.entries t)

-- the entries at and below a source, each with the path to which it is copied at or below the target, in path order
abbrev pub at_target : TreeMap → List (List ℕ) → List (List ℕ) → List (List (List ℕ) × Entry)
at_target second s goal = map (moved (length s) goal) (where_key path_cmp (is_within s) (finite.entries second))

-- the tree with the parents of a target, or the fault: missing parents are made if `createDestPath` is true; else all must exist
abbrev pub parents_for : Bool → List (List ℕ) → TreeMap → Result TreeMap TreeFault
parents_for true p t = make_all new_dir_meta (parents p) t
parents_for false p t = walk (finite.get t) p >>= λ _. Ok t

-- the tree after these copied entries are put at their paths, or the fault; `given` makes an entry's new mode and owner from those in the tree copied from
abbrev pub land : (MetaValue → MetaValue) → List (List (List ℕ) × Entry) → TreeMap → Result TreeMap TreeFault
land given es t = all_land t es >>= λ _. Ok (laid_on given t es)

-- the tree after a source is copied to a target, or the fault
abbrev pub copy_to : CopyFile → TreeMap → List (List ℕ) → List (List ℕ) → TreeMap → Result TreeMap TreeFault
copy_to c second s goal t = fits goal >>= λ _. parents_for c.create_dest_path goal t >>= land (copied c.mode c.owner) (at_target second s goal)

-- the tree after one source is copied to its target, or the fault
abbrev pub copy_one : CopyFile → List (List ℕ) × Bool → TreeMap → List (List ℕ) → TreeMap → Result TreeMap TreeFault
copy_one c dest second s t = copy_to c second s (target c dest second s t) t

-- the tree after these sources are copied, one after another, or the fault
abbrev pub copy_each : CopyFile → List (List ℕ) × Bool → TreeMap → List (List (List ℕ)) → TreeMap → Result TreeMap TreeFault
copy_each c dest second [] t = Ok t
copy_each c dest second (s ∷ ss) t = copy_one c dest second s t >>= copy_each c dest second ss

-- the tree after the chosen sources are copied, one after another, in path order, or the fault
abbrev pub copy_chosen : CopyFile → List (List ℕ) × Bool → TreeMap → TreeMap → Chosen → Result TreeMap TreeFault
copy_chosen c dest t second chosen = sources c.allow_empty_wildcard second chosen >>= λ ss. copy_each c dest second ss t

-- the tree after a copy from a second tree, or the fault; the source's text is read first, then the destination's text, and then the trees are looked at
abbrev pub copy : CopyFile → TreeMap → TreeMap → Result TreeMap ActFault
copy c t second =
    chosen_by c >>= λ chosen. on_tree (resolved c.dest) >>= λ dest. on_tree (copy_chosen c dest t second chosen)
