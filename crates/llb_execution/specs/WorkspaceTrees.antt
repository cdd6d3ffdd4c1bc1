-- The trees that a workspace works on, in a fixed order, and what each is there (`Role`). A caller that shows a workspace reads its trees by these definitions.
use Rattle.std.specs.Prelude.{ℕ, ◌+◌, ◌==◌, List, [], ◌∷◌, ◌++◌, map, Option, Some, None, slice_get, if◌then◌else◌}
use Rattle.llb_tree.specs.Tree.{TreeMap}
use Rattle.llb_mount.specs.declared.shown_tree.Shown.{Shown}
use Rattle.llb_model.specs.Program.{Workspace, LocalTree, Files, Layers, Mounted, filled}
use Rattle.llb_execution.specs.declared.workspace_trees.Look.{Look}
use Rattle.llb_execution.specs.declared.workspace_trees.Look.TheVariants as look
use Rattle.llb_execution.specs.declared.workspace_trees.Part.{Part}
use Rattle.llb_execution.specs.declared.workspace_trees.Part.TheVariants as part

-- the tree of a mount
abbrev pub shown_tree : Shown → TreeMap
shown_tree m = m.tree

-- the trees that a workspace works on; `trees` has the trees of the cache instances, in the order of the mounts that show these instances. Source: its local
-- tree. File op: its inputs, then its results so far. Merge: its inputs, then its result so far. Exec: the tree of each mount; for a mount that shows a cache,
-- the tree of the instance
abbrev pub trees_with : Workspace → List TreeMap → List TreeMap
trees_with (LocalTree t) trees = t ∷ []
trees_with (Files inputs results) trees = inputs ++ results
trees_with (Layers inputs t) trees = inputs ++ t ∷ []
trees_with (Mounted mounts caches last) trees = map shown_tree (filled mounts caches trees)

-- the mounts of an exec's workspace, in which a mount that shows a cache has the empty tree; nothing for a workspace of another kind
abbrev pub mounts_of : Workspace → Option (List Shown)
mounts_of (Mounted mounts caches last) = Some mounts
mounts_of (LocalTree t) = None
mounts_of (Files inputs results) = None
mounts_of (Layers inputs t) = None

-- the tree that a value of the code's type `Look` names: a tree that the value borrows, or tree k of `trees`, the trees of the cache instances
abbrev pub looked : List TreeMap → Option Look → Option TreeMap
looked trees None = None
looked trees (Some (look.Here t)) = Some t.now
looked trees (Some (look.Cached k)) = slice_get trees k

-- the tree at position k of the list if k is given, else the tree `own`
abbrev pub tree_or : Option TreeMap → List TreeMap → Option ℕ → Option TreeMap
tree_or own trees None = own
tree_or own trees (Some k) = slice_get trees k

-- the last position, of those up to k, at which a list of numbers has i; m is the number at position k, and `place` the last such position before k
abbrev pub next_place : ℕ → ℕ → ℕ → Option ℕ → Option ℕ
next_place i m k place = if m == i then Some k else place

-- the numbers and the trees are paired by position: the tree of the last pair whose number is i; `own` if there is no such pair
abbrev pub last_tree : ℕ → List ℕ → List TreeMap → Option TreeMap → Option TreeMap
last_tree i [] trees own = own
last_tree i (m ∷ ms) [] own = own
last_tree i (m ∷ ms) (t ∷ trees) own = last_tree i ms trees (if m == i then Some t else own)

-- the role of a tree in a workspace: a source's local tree, an input, the result of an action, a merge's result so far, or the tree of the
-- mount with this dest
pub data Role : Type 0 where
  Local : Role
  Input : Role
  ResultOf : ℕ → Role
  Laid : Role
  MountAt : List (List ℕ) → Role

-- the `Role` (what a tree of a workspace is) that a value of the code's type `Part` represents
abbrev pub role_in : Part → Role
role_in part.Local = Local
role_in part.Input = Input
role_in (part.ResultOf a) = ResultOf a
role_in part.Laid = Laid
role_in (part.MountAt dest) = MountAt dest.now

-- the `Role` (what a tree of a workspace is) of the tree of an input: `Input`
abbrev pub input_role : TreeMap → Role
input_role t = Input

-- the role of a mount's tree, which names the mount by its dest
abbrev pub mount_role : Shown → Role
mount_role m = MountAt m.dest

-- the `Role` of each tree of a list that has the results of action `a` and of the actions after it: the first is the result of `a`, the next of `a` + 1, ..
abbrev pub results_from : ℕ → List TreeMap → List Role
results_from a [] = []
results_from a (t ∷ trees) = ResultOf a ∷ results_from (a + 1) trees

-- the role (local tree, input, result and so on) of each tree that a workspace works on, in the order of the trees
abbrev pub roles_of : Workspace → List Role
roles_of (LocalTree t) = Local ∷ []
roles_of (Files inputs results) = map input_role inputs ++ results_from 0 results
roles_of (Layers inputs t) = map input_role inputs ++ Laid ∷ []
roles_of (Mounted mounts caches last) = map mount_role mounts
