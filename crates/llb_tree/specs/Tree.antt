-- A tree as a map from paths to entries: which maps are trees, the walk along the parents of a path, and the edits, each of which returns
-- the changed map or the first fault. Nothing here depends on how a tree is kept in memory.
use denote.Param.Weighed.{most}
use Rattle.std.specs.Prelude.{◌≡◌, ℕ, Bool, true, false, List, [], ◌∷◌, ◌++◌, ◌==◌, ◌+◌, ◌&&◌, nat_lt, if◌then◌else◌, length, drop, map}
use Rattle.std.specs.Prelude.{Option, Some, None, IsSome, not, Result, Ok, Err}
use Rattle.std.specs.List.{flat_map}
use Rattle.std.specs.FinMap as finite
use Rattle.std.specs.FinMap.{FinMap}
use Rattle.std.specs.FinMap.Entries.{where_key}
use Rattle.llb_wire.specs.CallResults.{◌>>=◌}
use Rattle.llb_wire.specs.Spelling.{AreBytes}
use Rattle.llb_tree.specs.Path.{path_cmp, IsPath, is_within}
pub use Rattle.llb_tree.specs.ModeAndOwner.{MetaValue, IsMeta, new_dir_meta}
pub use Rattle.llb_tree.specs.CallResults.{is_memory, Gives, MemoryLast}
use Rattle.llb_tree.specs.declared.fault.TreeFault.{TreeFault}
use Rattle.llb_tree.specs.declared.fault.TreeFault.TheVariants.{NotFound, NotDir, IsDir, Conflict, Root, BadName}

-- an entry of a tree: a directory with its mode and owner, or a file with its mode, its owner and its content
pub data Entry : Type 0 where
  Dir : MetaValue → Entry
  File : MetaValue → List ℕ → Entry

-- the mode and the owner of an entry
abbrev pub meta_in : Entry → MetaValue
meta_in (Dir m) = m
meta_in (File m bytes) = m

-- a tree as a map from paths to entries
abbrev pub TreeMap : Type 0
TreeMap = FinMap path_cmp Entry

-- the height of a tree: one more than the number of names in its longest path
abbrev pub height : TreeMap → ℕ
height t = most (λ (e : List (List ℕ) × Entry). length e.0 + 1) (finite.entries t)

-- a function that returns the entry at each path, or nothing if the path has none
abbrev pub Look : Type 0
Look = List (List ℕ) → Option Entry

-- the proper prefixes of a path, from the root down
abbrev pub parents : List (List ℕ) → List (List (List ℕ))
parents [] = []
parents (n ∷ p) = [] ∷ map (λ q. n ∷ q) (parents p)

-- succeeds if all entries are directories; else fails with `NotFound` if the first entry that is no directory is missing, with `NotDir` if it is a file
abbrev pub all_dirs : List (Option Entry) → Result (Unit {0}) TreeFault
all_dirs [] = Ok tt
all_dirs (None ∷ es) = Err NotFound
all_dirs (Some (File m b) ∷ es) = Err NotDir
all_dirs (Some (Dir m) ∷ es) = all_dirs es

-- succeeds if the parents of a path are directories; else fails at the first parent, from the root down, that is missing or a file, as `all_dirs` says
abbrev pub walk : Look → List (List ℕ) → Result (Unit {0}) TreeFault
walk look p = all_dirs (map look (parents p))

-- succeeds if there is no entry or the entry is a file, so that a file may be put there; else fails with `IsDir`
abbrev pub file_fits : Option Entry → Result (Unit {0}) TreeFault
file_fits (Some (Dir m)) = Err IsDir
file_fits (Some (File m b)) = Ok tt
file_fits None = Ok tt

-- succeeds if there is no entry or the entry is a directory, so that a directory may be put there; else fails with `Conflict`
abbrev pub dir_fits : Option Entry → Result (Unit {0}) TreeFault
dir_fits (Some (File m b)) = Err Conflict
dir_fits (Some (Dir m)) = Ok tt
dir_fits None = Ok tt

-- succeeds if the path is not the root; else fails with `Root`
abbrev pub not_root : List (List ℕ) → Result (Unit {0}) TreeFault
not_root [] = Err Root
not_root (n ∷ p) = Ok tt

-- the tree after a file is put at a path, or the first fault
abbrev pub put_file : TreeMap → List (List ℕ) → MetaValue → List ℕ → Result TreeMap TreeFault
put_file t p m bytes = not_root p >>= λ _. walk (finite.get t) p >>= λ _. file_fits (finite.get t p) >>= λ _. Ok (finite.insert t p (File m bytes))

-- the tree after a directory is put at a path (the root too), or the fault; a directory that is already at the path gets the new mode and owner
abbrev pub put_dir : TreeMap → List (List ℕ) → MetaValue → Result TreeMap TreeFault
put_dir t p m = walk (finite.get t) p >>= λ _. dir_fits (finite.get t p) >>= λ _. Ok (finite.insert t p (Dir m))

-- succeeds if there is an entry; else fails with `NotFound`
abbrev pub found : Option Entry → Result (Unit {0}) TreeFault
found (Some e) = Ok tt
found None = Err NotFound

-- the tree without what is at or below a path
abbrev pub without : TreeMap → List (List ℕ) → TreeMap
without t p = finite.retain_keys t (λ q. not (is_within p q))

-- the tree after what is at or below a path is removed, or the first fault
abbrev pub remove : TreeMap → List (List ℕ) → Result TreeMap TreeFault
remove t p = not_root p >>= λ _. found (finite.get t p) >>= λ _. Ok (without t p)

-- succeeds if a directory is at the path; else fails with `NotFound` or `NotDir`
abbrev pub dir_there : TreeMap → List (List ℕ) → Result (Unit {0}) TreeFault
dir_there t p = all_dirs (finite.get t p ∷ [])

-- the entry `e` at another path: its old path with the names `front` in place of the first n names
abbrev pub moved : ℕ → List (List ℕ) → List (List ℕ) × Entry → List (List ℕ) × Entry
moved n front e = (front ++ drop n e.0, e.1)

-- the tree of what is at or below path p: it has at q what the tree t has at p ++ q
abbrev pub tree_at : TreeMap → List (List ℕ) → TreeMap
tree_at t p = finite.from_entries (map (moved (length p) []) (where_key path_cmp (is_within p) (finite.entries t)))

-- the tree of what is at or below a directory; or the fault, if nothing is at the path or a file is there
abbrev pub subtree : TreeMap → List (List ℕ) → Result TreeMap TreeFault
subtree t p = dir_there t p >>= λ _. Ok (tree_at t p)

-- the last name of path q, as a list of one name, if q is directly below path p; else no names
abbrev pub name_below : List (List ℕ) → List (List ℕ) → List (List ℕ)
name_below p q = if is_within p q && (length (drop (length p) q) == 1) then drop (length p) q else []

-- the names of the entries that are directly in a directory, in order; or the fault, if nothing is at the path or a file is there
abbrev pub list : TreeMap → List (List ℕ) → Result (List (List ℕ)) TreeFault
list t p = dir_there t p >>= λ _. Ok (flat_map (name_below p) (finite.keys t))

-- succeeds if none of these paths, put below path p, has more than 128 names; else fails with `BadName`
abbrev pub places_fit : List (List ℕ) → List (List (List ℕ)) → Result (Unit {0}) TreeFault
places_fit p [] = Ok tt
places_fit p (q ∷ qs) = if nat_lt 128 (length p + length q) then Err BadName else places_fit p qs

-- the tree after the tree `other` replaces what is at or below path p: it has at p ++ q what `other` has at q
abbrev pub with_tree : TreeMap → List (List ℕ) → TreeMap → TreeMap
with_tree t p other = finite.from_entries (map (moved 0 p) (finite.entries other) ++ finite.entries (without t p))

-- the tree after the tree `other` is put at a path as `with_tree` says, or the fault; at the root `other` replaces everything
abbrev pub graft : TreeMap → List (List ℕ) → TreeMap → Result TreeMap TreeFault
graft t p other = walk (finite.get t) p >>= λ _. places_fit p (finite.keys other) >>= λ _. Ok (with_tree t p other)

-- the tree that has nothing but a root directory, with mode 0755 and owner 0:0
abbrev pub empty_tree : TreeMap
empty_tree = finite.insert finite.empty [] (Dir new_dir_meta)

-- whether there is an entry and the entry is a directory
abbrev pub is_dir : Option Entry → Bool
is_dir None = false
is_dir (Some (Dir m)) = true
is_dir (Some (File m content)) = false

-- the content of the entry, if the entry is a file; nothing for a directory, or if there is no entry
abbrev pub content_of : Option Entry → Option (List ℕ)
content_of None = None
content_of (Some (Dir m)) = None
content_of (Some (File m content)) = Some content

-- there is a directory at the path
abbrev pub IsDirAt : Look → List (List ℕ) → Type 0
IsDirAt look p = (m : MetaValue) × (look p ≡ Some (Dir m))

-- the content of a file consists of bytes: numbers below 256
abbrev pub HasBytes : Entry → Type 0
HasBytes (Dir m) = Unit {0}
HasBytes (File m content) = AreBytes content

-- a tree may have entry e at path p: p is a path by `IsPath`, the mode and the owners are in range, and the content of a file consists of bytes
pub record IsAllowedAt (p : List (List ℕ)) (e : Entry) : Type 0 where
  pub path : IsPath p
  pub meta : IsMeta (meta_in e)
  pub bytes : HasBytes e

-- the map is a tree: the root is a directory, so is each proper prefix of a path that has an entry, and each entry is allowed by `IsAllowedAt`
pub record IsTree (t : TreeMap) : Type 0 where
  pub root : IsDirAt (finite.get t) []
  pub closed : (p : List (List ℕ)) → IsSome (finite.get t p) → walk (finite.get t) p ≡ Ok tt
  pub allowed : (p : List (List ℕ)) (e : Entry) → finite.get t p ≡ Some e → IsAllowedAt p e
