-- Parts of the rule by which copied entries are put into a tree: whether each can be put at its path, and what is at each path after a directory is merged in.
use Rattle.std.specs.Prelude.{◌≡◌, ℕ, ◌+◌, nat_lt, List, [], ◌∷◌, length, Option, Some, None, Result, Ok, Err, if◌then◌else◌}
use Rattle.std.specs.FinMap as finite
use Rattle.llb_wire.specs.CallResults.{◌>>=◌}
use Rattle.llb_tree.specs.Tree.{TreeMap, Entry, Dir, File, walk, put_file, put_dir}
use Rattle.llb_tree.specs.ModeAndOwner.{MetaValue}
use Rattle.llb_tree.specs.declared.fault.TreeFault.{TreeFault}
use Rattle.llb_tree.specs.declared.fault.TreeFault.TheVariants.{BadName}
use Rattle.llb_fileop.specs.Copying.{meets, landed, land, fits}

-- the tree after an entry is put at a path, or the fault
abbrev pub put : Entry → TreeMap → List (List ℕ) → Result TreeMap TreeFault
put (Dir m) t p = put_dir t p m
put (File m bytes) t p = put_file t p m bytes

-- no path has a file in one of the two trees and a directory in the other
abbrev pub AgreeOn : TreeMap → TreeMap → Type 0
AgreeOn t source = (q : List (List ℕ)) (e : Entry) → finite.get source q ≡ Some e → meets (finite.get t q) e ≡ Ok tt

-- succeeds if each of these entries can be put over what the tree `here` has at the entry's path; else fails with the fault of the first entry that can't
abbrev pub all_meet : TreeMap → List (List (List ℕ) × Entry) → Result (Unit {0}) TreeFault
all_meet here [] = Ok tt
all_meet here (e ∷ es) = meets (finite.get here e.0) e.1 >>= λ _. all_meet here es

-- succeeds if each of these entries can be put below a path of `depth` names that has the tree `here`; else fails with the fault of the first that can't
abbrev pub all_below : TreeMap → ℕ → List (List (List ℕ) × Entry) → Result (Unit {0}) TreeFault
all_below here depth [] = Ok tt
all_below here depth (e ∷ es) =
    if nat_lt 128 (depth + length e.0) then Err BadName else (meets (finite.get here e.0) e.1 >>= λ _. all_below here depth es)

-- what is at a path after a copied entry is put there; what was there before, `there`, stays if both are directories, or if there is no copied entry
abbrev pub laid : (MetaValue → MetaValue) → Option Entry → Option Entry → Option Entry
laid given there None = there
laid given there (Some e) = Some (landed given there e)

-- the tree after an entry is put at a path; if no entry is given, the unchanged tree
abbrev pub put_some : Option Entry → TreeMap → List (List ℕ) → Result TreeMap TreeFault
put_some None t p = Ok t
put_some (Some e) t p = put e t p

-- the tree after the entries are put at their paths, or the fault; all parents of the target `goal` have to exist
abbrev pub land_at : (MetaValue → MetaValue) → List (List (List ℕ) × Entry) → List (List ℕ) → TreeMap → Result TreeMap TreeFault
land_at given es goal t = walk (finite.get t) goal >>= λ _. land given es t

-- the path, if it has at most 128 names; else the fault `BadName`
abbrev pub placed : List (List ℕ) → Result (List (List ℕ)) TreeFault
placed p = fits p >>= λ _. Ok p
