-- Two of a kind that are alike, as in specs/, and of which the first has only names with a property N in the paths of its trees, so that an exec lists no other
-- names. (Alike trees have the same paths, so the second has only such names too.) Where a law asks nothing of names, N holds of each; for tokens it is that
-- `is_name` holds.
use Rattle.std.proofs.Common.{◌≡◌, ℕ, List, Some}
use Rattle.std.specs.List.{All}
use Rattle.std.specs.FinMap as finite
use Rattle.llb_tree.specs.Tree.{TreeMap, Entry}
use Rattle.llb_mount.specs.declared.shown_tree.Shown.{Shown}
use Rattle.llb_applet.specs.declared.directory_and_variables.Setting.{Setting}
use Rattle.llb_applet.specs.declared.command.Command.{Command}
use Rattle.llb_applet.specs.declared.command.Command.TheVariants as command
use Rattle.llb_applet.specs.Commands.{listed}
use Rattle.llb_model.specs.Caches.{Instance, Store, content}
use Rattle.llb_model.specs.Program.{MicroStep, ReadLocal, Act, LayInput, Run, Workspace, LocalTree, Files, Layers, Mounted, Work, Left}
use Rattle.llb_laws.specs.AlikeTrees.{BothOptions, BothLists, AreAlike, RelatesTexts, RelatesBody}

-- each path at which the tree has an entry has only names with the property N
abbrev pub IsNamed : (List ℕ → Type 0) → TreeMap → Type 0
IsNamed N t = (p : List (List ℕ)) (e : Entry) → finite.get t p ≡ Some e → All N p

-- two alike trees, of which the first, and so the second, has only such names
pub record Alike (N : List ℕ → Type 0) (R : List ℕ → List ℕ → Type 0) (t u : TreeMap) : Type 0 where
  pub like : AreAlike R t u
  pub named : IsNamed N t

-- two alike mounts, whose trees and selector have only such names
pub record AlikeMounts (N : List ℕ → Type 0) (R : List ℕ → List ℕ → Type 0) (m n : Shown) : Type 0 where
  pub dest : m.dest ≡ n.dest
  pub selector : m.selector ≡ n.selector
  pub readonly : m.readonly ≡ n.readonly
  pub tree : Alike N R m.tree n.tree
  pub named : All N m.selector

-- the mounts are alike, one by one
abbrev pub AlikeViews : (List ℕ → Type 0) → (List ℕ → List ℕ → Type 0) → List Shown → List Shown → Type 0
AlikeViews N R = BothLists (AlikeMounts N R)

-- the workspaces are alike, and their trees and selectors have only such names
abbrev pub AlikeWorkspaces : (List ℕ → Type 0) → (List ℕ → List ℕ → Type 0) → Workspace → Workspace → Type 0
AlikeWorkspaces N R (LocalTree t) (LocalTree u) = Alike N R t u
AlikeWorkspaces N R (Files inputs results) (Files others more) = BothLists (Alike N R) inputs others × BothLists (Alike N R) results more
AlikeWorkspaces N R (Layers inputs t) (Layers others u) = BothLists (Alike N R) inputs others × Alike N R t u
AlikeWorkspaces N R (Mounted mounts caches last) (Mounted others numbers status) = AlikeViews N R mounts others × (caches ≡ numbers) × (last ≡ status)
AlikeWorkspaces N R _ _ = ⊥

-- so are the workspaces of two works, and the trees of their cache instances
pub record AlikeWorks (N : List ℕ → Type 0) (R : List ℕ → List ℕ → Type 0) (x y : Work) : Type 0 where
  pub own : AlikeWorkspaces N R x.own y.own
  pub trees : BothLists (Alike N R) x.trees y.trees

-- so are the works that two micro-steps leave, with equal faults
pub record AlikeLefts (N : List ℕ → Type 0) (R : List ℕ → List ℕ → Type 0) (x y : Left) : Type 0 where
  pub work : AlikeWorks N R x.work y.work
  pub fault : x.fault ≡ y.fault

-- the two trees of each cache instance are alike, with only such names
abbrev pub AlikeStores : (List ℕ → Type 0) → (List ℕ → List ℕ → Type 0) → Store → Store → Type 0
AlikeStores N R s t = (p : Instance) → BothOptions (Alike N R) (content s p) (content t p)

-- ---- what is written

-- `RelatesTexts`, but of listings only those of names with the property N
abbrev pub Texts : (List ℕ → Type 0) → (List ℕ → List ℕ → Type 0) → Setting → Command → Type 0
Texts N R setting (command.Listing path out) = (t : TreeMap) (p names : List (List ℕ)) → All N names → R (listed t p names) (listed t p names)
Texts N R setting c = RelatesTexts R setting c

-- `RelatesStep`, but of listings only those of names with the property N; a command's cwd has only such names
abbrev pub Writes : (List ℕ → Type 0) → (List ℕ → List ℕ → Type 0) → MicroStep → Type 0
Writes N R (Act action) = RelatesBody R action.kind
Writes N R (Run setting command ends) = All N setting.cwd × Texts N R setting command.command
Writes N R ReadLocal = Unit {0}
Writes N R (LayInput i) = Unit {0}
