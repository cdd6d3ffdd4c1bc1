-- The tree after a path, or all paths that match a pattern, are removed, or the first fault.
use Rattle.std.specs.Prelude.{ℕ, Bool, true, false, not, List, [], ◌∷◌, Option, Some, None, Result, Ok, Err, if◌then◌else◌}
use Rattle.std.specs.List.{list_any, filter}
use Rattle.std.specs.FinMap as finite
use Rattle.llb_wire.specs.CallResults.{◌>>=◌}
use Rattle.llb_ops.specs.declared.actions.Rm.{Rm}
use Rattle.llb_tree.specs.Path.{path_of, is_within}
use Rattle.llb_tree.specs.Tree.{TreeMap, Entry, without, not_root}
use Rattle.llb_tree.specs.declared.fault.TreeFault.{TreeFault}
use Rattle.llb_tree.specs.declared.fault.TreeFault.TheVariants.{NotFound, Root}
use Rattle.llb_glob.specs.declared.item.Item.{Item}
use Rattle.llb_glob.specs.Matching.{path_matches}
use Rattle.llb_glob.specs.Pattern.{pattern_of}
use Rattle.llb_fileop.specs.declared.fault.ActFault.{ActFault}
use Rattle.llb_fileop.specs.CallResults.{on_tree, on_pattern}

-- the result of a removal if nothing is there: the unchanged tree, if this is allowed; else the fault `NotFound`
abbrev pub absent : Bool → TreeMap → Result TreeMap TreeFault
absent true t = Ok t
absent false t = Err NotFound

-- the tree after what is at and below a path is removed; if nothing is there, the unchanged tree if `allowed` is true, else the fault `NotFound`
abbrev pub removed : Bool → List (List ℕ) → Option Entry → TreeMap → Result TreeMap TreeFault
removed allowed p (Some e) t = Ok (without t p)
removed allowed p None t = absent allowed t

-- the tree after what is at and below one path is removed; the root is refused
abbrev pub rm_path : Bool → TreeMap → List (List ℕ) → Result TreeMap TreeFault
rm_path allowed t p = not_root p >>= λ _. removed allowed p (finite.get t p) t

-- the paths of a tree that match a pattern, in path order
abbrev pub matching : List (List Item) → TreeMap → List (List (List ℕ))
matching pattern t = filter (path_matches pattern) (finite.keys t)

-- whether a path is at or below one of these paths
abbrev pub is_below_any : List (List (List ℕ)) → List (List ℕ) → Bool
is_below_any ps q = list_any (λ p. is_within p q) ps

-- the tree without what is at or below each path that matches the pattern
abbrev pub left : List (List Item) → TreeMap → TreeMap
left pattern t = finite.retain_keys t (λ q. not (is_below_any (matching pattern t) q))

-- the tree after these paths, and what is below them, are removed; if there are no paths, the unchanged tree if `allowed` is true, else the fault `NotFound`
abbrev pub removed_all : Bool → List (List (List ℕ)) → TreeMap → Result TreeMap TreeFault
removed_all allowed [] t = absent allowed t
removed_all allowed (p ∷ ps) t = Ok (finite.retain_keys t (λ q. not (is_below_any (p ∷ ps) q)))

-- the tree after the paths that match a pattern are removed; a pattern without parts matches the root, which is refused
abbrev pub rm_pattern : Bool → TreeMap → List (List Item) → Result TreeMap TreeFault
rm_pattern allowed t [] = Err Root
rm_pattern allowed t (part ∷ parts) = removed_all allowed (matching (part ∷ parts) t) t

-- the tree after an `rm` action, or the fault; the action's text is read as a pattern if wildcards are allowed, else as a path
abbrev pub rm : Rm → TreeMap → Result TreeMap ActFault
rm r t =
    if r.allow_wildcard then (on_pattern (pattern_of r.path) >>= λ pattern. on_tree (rm_pattern r.allow_not_found t pattern))
    else (on_tree (path_of r.path) >>= λ p. on_tree (rm_path r.allow_not_found t p))
