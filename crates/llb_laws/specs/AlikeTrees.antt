-- Trees, views and results that differ only in the contents of files; a given relation R relates the two contents at each path.
use Rattle.std.specs.Prelude.{◌≡◌, ℕ, List, [], ◌∷◌, ◌++◌, Option, Some, None, Result, Ok, Err}
use Rattle.std.specs.List.{flat_map}
use Rattle.std.specs.FinMap as finite
use Rattle.llb_wire.specs.Digest.{digits_of}
use Rattle.llb_ops.specs.declared.file_op.ActionKind.{ActionKind}
use Rattle.llb_ops.specs.declared.file_op.ActionKind.TheVariants as kind
use Rattle.llb_tree.specs.Tree.{TreeMap, Entry, Dir, File}
use Rattle.llb_tree.specs.ModeAndOwner.{MetaValue}
use Rattle.llb_mount.specs.declared.shown_tree.Shown.{Shown}
use Rattle.llb_applet.specs.declared.directory_and_variables.Setting.{Setting}
use Rattle.llb_applet.specs.declared.command.Command.{Command}
use Rattle.llb_applet.specs.declared.command.Command.TheVariants as command
use Rattle.llb_applet.specs.Commands.{line, listed}
use Rattle.llb_model.specs.Program.{MicroStep, ReadLocal, Act, LayInput, Run, Workspace, LocalTree, Files, Layers, Mounted, Work, Left}
use Rattle.llb_model.specs.Outcome.{Ending, Done, Failed, Outcome, Ended, Blocked}

-- R relates the empty content to itself, and appending keeps R: if R relates a to b, and c to d, then R relates a followed by c to b followed by d
pub record IsKept (R : List ℕ → List ℕ → Type 0) : Type 0 where
  pub empty : R [] []
  pub appended : (a b c d : List ℕ) → R a b → R c d → R (a ++ c) (b ++ d)

-- ---- two options, or two results

-- both values exist and P relates them, or neither exists
abbrev pub BothOptions : {A : Type 0} → (A → A → Type 0) → Option A → Option A → Type 0
BothOptions P None None = Unit {0}
BothOptions P (Some x) (Some y) = P x y
BothOptions P None (Some y) = ⊥
BothOptions P (Some x) None = ⊥

-- both results are values that P relates, or both are the same fault
abbrev pub BothResults : {A F : Type 0} → (A → A → Type 0) → Result A F → Result A F → Type 0
BothResults P (Ok x) (Ok y) = P x y
BothResults P (Err e) (Err f) = e ≡ f
BothResults P (Ok x) (Err f) = ⊥
BothResults P (Err e) (Ok y) = ⊥

-- the lists have the same length, and P relates the two items at each position
abbrev pub BothLists : {A : Type 0} → (A → A → Type 0) → List A → List A → Type 0
BothLists P [] [] = Unit {0}
BothLists P (x ∷ xs) (y ∷ ys) = P x y × BothLists P xs ys
BothLists P [] (y ∷ ys) = ⊥
BothLists P (x ∷ xs) [] = ⊥

-- ---- trees and views

-- both entries are directories with the same mode and owner, or both are files with the same mode and owner and related contents
abbrev pub AreLike : (List ℕ → List ℕ → Type 0) → Entry → Entry → Type 0
AreLike R (Dir m) (Dir n) = m ≡ n
AreLike R (File m a) (File n b) = (m ≡ n) × R a b
AreLike R (Dir m) (File n b) = ⊥
AreLike R (File m a) (Dir n) = ⊥

-- at each path both trees have entries that `AreLike` relates, or neither has an entry
abbrev pub AreAlike : (List ℕ → List ℕ → Type 0) → TreeMap → TreeMap → Type 0
AreAlike R t u = (p : List (List ℕ)) → BothOptions (AreLike R) (finite.get t p) (finite.get u p)

-- two mounts that are equal, except that the contents of files may differ: R relates the contents at each path (`AreAlike`)
pub record AreAlikeMounts (R : List ℕ → List ℕ → Type 0) (m n : Shown) : Type 0 where
  pub dest : m.dest ≡ n.dest
  pub selector : m.selector ≡ n.selector
  pub readonly : m.readonly ≡ n.readonly
  pub tree : AreAlike R m.tree n.tree

-- two views that are equal, except that the contents of files may differ: R relates the contents at each path (`AreAlike`)
abbrev pub AreAlikeViews : (List ℕ → List ℕ → Type 0) → List Shown → List Shown → Type 0
AreAlikeViews R = BothLists (AreAlikeMounts R)

-- ---- commands

-- two files with the same mode and owner, and with related contents
abbrev pub AreLikeFiles : (List ℕ → List ℕ → Type 0) → MetaValue × List ℕ → MetaValue × List ℕ → Type 0
AreLikeFiles R f g = (f.0 ≡ g.0) × R f.1 g.1

-- if a command writes a text that it does not read from a file, R relates this text to itself; if it writes digests, R relates digests of related contents
abbrev pub RelatesTexts : (List ℕ → List ℕ → Type 0) → Setting → Command → Type 0
RelatesTexts R setting (command.Write path word) = R (line word) (line word)
RelatesTexts R setting (command.Append path word) = R (line word) (line word)
RelatesTexts R setting (command.Listing path out) = (t : TreeMap) (p : List (List ℕ)) (names : List (List ℕ)) → R (listed t p names) (listed t p names)
RelatesTexts R setting (command.Envfile out) = R (flat_map line setting.env) (flat_map line setting.env)
RelatesTexts R setting (command.Sha256 path out) = (a b : List ℕ) → R a b → R (line (digits_of a)) (line (digits_of b))
RelatesTexts R setting command.True = Unit {0}
RelatesTexts R setting command.False = Unit {0}
RelatesTexts R setting (command.Mkdir parents path) = Unit {0}
RelatesTexts R setting (command.Rm path) = Unit {0}
RelatesTexts R setting (command.Cp from to) = Unit {0}
RelatesTexts R setting (command.Concat out parts) = Unit {0}
RelatesTexts R setting (command.Chmod mode path) = Unit {0}
RelatesTexts R setting (command.Test kind path) = Unit {0}

-- the content that a mkfile action writes is related to itself; no other action has a content to write
abbrev pub RelatesBody : (List ℕ → List ℕ → Type 0) → Option ActionKind → Type 0
RelatesBody R (Some (kind.MkFile m)) = R m.body m.body
RelatesBody R (Some (kind.MkDir m)) = Unit {0}
RelatesBody R (Some (kind.Copy c)) = Unit {0}
RelatesBody R (Some (kind.Rm r)) = Unit {0}
RelatesBody R None = Unit {0}

-- ---- runs of a program

-- two workspaces of the same kind that are equal, except that the contents of files may differ: R relates the contents at each path (`AreAlike`)
abbrev pub AreAlikeWorkspaces : (List ℕ → List ℕ → Type 0) → Workspace → Workspace → Type 0
AreAlikeWorkspaces R (LocalTree t) (LocalTree u) = AreAlike R t u
AreAlikeWorkspaces R (Files inputs results) (Files others more) = BothLists (AreAlike R) inputs others × BothLists (AreAlike R) results more
AreAlikeWorkspaces R (Layers inputs t) (Layers others u) = BothLists (AreAlike R) inputs others × AreAlike R t u
AreAlikeWorkspaces R (Mounted mounts caches last) (Mounted others numbers status) = AreAlikeViews R mounts others × (caches ≡ numbers) × (last ≡ status)
AreAlikeWorkspaces R _ _ = ⊥

-- two works (a workspace, and the trees of its cache instances) that are equal, except that contents of files may differ: R relates them (`AreAlike`)
pub record AreAlikeWorks (R : List ℕ → List ℕ → Type 0) (x y : Work) : Type 0 where
  pub own : AreAlikeWorkspaces R x.own y.own
  pub trees : BothLists (AreAlike R) x.trees y.trees

-- two results of micro-steps: both have the same fault or none; their workspaces and trees of cache instances are equal except for contents, which R relates
pub record AreAlikeLefts (R : List ℕ → List ℕ → Type 0) (x y : Left) : Type 0 where
  pub work : AreAlikeWorks R x.work y.work
  pub fault : x.fault ≡ y.fault

-- R relates to itself each content that the micro-step writes without reading it from a file; if it makes digests, R relates digests of related contents
abbrev pub RelatesStep : (List ℕ → List ℕ → Type 0) → MicroStep → Type 0
RelatesStep R (Act action) = RelatesBody R action.kind
RelatesStep R (Run setting command ends) = RelatesTexts R setting command.command
RelatesStep R ReadLocal = Unit {0}
RelatesStep R (LayInput i) = Unit {0}

-- both endings are `Done`, with equally many outputs, and P relates the two outputs with each number; or both are `Failed`, with the same fault
abbrev pub BothEndings : (TreeMap → TreeMap → Type 0) → Ending → Ending → Type 0
BothEndings P (Done trees) (Done others) = BothLists P trees others
BothEndings P (Failed f) (Failed g) = f ≡ g
BothEndings P (Done trees) (Failed g) = ⊥
BothEndings P (Failed f) (Done others) = ⊥

-- both endings are `Done`, with equally many outputs, equal except for contents of files, which R relates; or both are `Failed`, with the same fault
abbrev pub AreAlikeEndings : (List ℕ → List ℕ → Type 0) → Ending → Ending → Type 0
AreAlikeEndings R = BothEndings (AreAlike R)

-- both outcomes ended, with endings whose outputs P relates (`BothEndings`), or both are blocked
abbrev pub BothOutcomes : (TreeMap → TreeMap → Type 0) → Outcome → Outcome → Type 0
BothOutcomes P (Ended d) (Ended e) = BothEndings P d e
BothOutcomes P Blocked Blocked = Unit {0}
BothOutcomes P (Ended d) Blocked = ⊥
BothOutcomes P Blocked (Ended e) = ⊥

-- two outcomes that are equal except for contents of files, which R relates: both ended (see `AreAlikeEndings`), or both are blocked
abbrev pub AreAlikeOutcomes : (List ℕ → List ℕ → Type 0) → Outcome → Outcome → Type 0
AreAlikeOutcomes R = BothOutcomes (AreAlike R)
