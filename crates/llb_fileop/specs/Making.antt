-- The tree after a file or a directory is made, or the first fault.
use Rattle.std.specs.Prelude.{Bool, true, false, List, [], ◌∷◌, ◌++◌, ℕ, Option, Some, None, Result, Ok, Err}
use Rattle.std.specs.FinMap as finite
use Rattle.llb_wire.specs.CallResults.{◌>>=◌}
use Rattle.llb_ops.specs.declared.actions.MkFile as file
use Rattle.llb_ops.specs.declared.actions.MkDir as dir
use Rattle.llb_tree.specs.Path.{path_of}
use Rattle.llb_tree.specs.Tree.{TreeMap, Entry, Dir, File, parents, put_file, put_dir}
use Rattle.llb_tree.specs.ModeAndOwner.{MetaValue}
use Rattle.llb_tree.specs.declared.fault.TreeFault.{TreeFault}
use Rattle.llb_tree.specs.declared.fault.TreeFault.TheVariants.{NotDir}
use Rattle.llb_fileop.specs.Owners.{made}

-- the tree after a `mkfile` action, or the fault: a new file is at the action's path; it replaces a file that was there
abbrev pub mkfile : file.MkFile → TreeMap → Result TreeMap TreeFault
mkfile m t = path_of m.path >>= λ p. put_file t p (made m.mode m.owner) m.body

-- the tree after a directory is made at a path if nothing is there; a directory that is there stays as it is; a file there is the fault `NotDir`
abbrev pub kept_or_made : MetaValue → List (List ℕ) → Option Entry → TreeMap → Result TreeMap TreeFault
kept_or_made m p None t = put_dir t p m
kept_or_made m p (Some (Dir n)) t = Ok t
kept_or_made m p (Some (File n bytes)) t = Err NotDir

-- the parents, at or below p, of the path p with these names after it
abbrev pub parents_from : List (List ℕ) → List (List ℕ) → List (List (List ℕ))
parents_from p [] = []
parents_from p (n ∷ ns) = p ∷ parents_from (p ++ n ∷ []) ns

-- the tree after a directory is made at each of these paths, in order, unless a directory is there; or the first fault: at a file, `NotDir`
abbrev pub make_all : MetaValue → List (List (List ℕ)) → TreeMap → Result TreeMap TreeFault
make_all m [] t = Ok t
make_all m (p ∷ ps) t = kept_or_made m p (finite.get t p) t >>= make_all m ps

-- if the action's `make_parents` is true, the tree after the missing parents of path p are made, or the fault; if it is false, the unchanged tree
abbrev pub with_parents : Bool → MetaValue → List (List ℕ) → TreeMap → Result TreeMap TreeFault
with_parents true m p t = make_all m (parents p) t
with_parents false m p t = Ok t

-- the tree after a directory is made at a path, with its missing parents if `make_parents` is true; a directory that is there stays as it is
abbrev pub make_dir : Bool → MetaValue → List (List ℕ) → Option Entry → TreeMap → Result TreeMap TreeFault
make_dir parents m p (Some (Dir n)) t = Ok t
make_dir parents m p (Some (File n bytes)) t = with_parents parents m p t >>= λ u. put_dir u p m
make_dir parents m p None t = with_parents parents m p t >>= λ u. put_dir u p m

-- the tree after a `mkdir` action, or the fault
abbrev pub mkdir : dir.MkDir → TreeMap → Result TreeMap TreeFault
mkdir m t = path_of m.path >>= λ p. make_dir m.make_parents (made m.mode m.owner) p (finite.get t p) t
