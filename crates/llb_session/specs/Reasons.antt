-- Why a command of the exec that a worker runs fails on the trees that the worker works on now, and the words that say so.
use Rattle.std.specs.Prelude.{ℕ, zero, suc, List, [], ◌++◌, codes, length, Option, Some, None, option_map, option_and_then, slice_get}
use Rattle.std.specs.Fmt.{decimal}
use Rattle.llb_tree.specs.Tree.{TreeMap}
use Rattle.llb_treetext.specs.TreeText.{path_text}
use Rattle.llb_mount.specs.declared.shown_tree.Shown.{Shown}
use Rattle.llb_mount.specs.View.{with_tree_of}
use Rattle.llb_applet.specs.Causes.{cause_of}
use Rattle.llb_applet.specs.declared.cause.Cause.{Cause}
use Rattle.llb_applet.specs.declared.cause.Cause.TheVariants.{Always, NoPath, At}
use Rattle.llb_applet.specs.declared.cause.What.{What}
use Rattle.llb_applet.specs.declared.cause.What.TheVariants as what
use Rattle.llb_loader.specs.declared.graph.Vertex.{Vertex}
use Rattle.llb_model.specs.Program.{Build, MicroStep, ReadLocal, Act, LayInput, Run, program_of}
use Rattle.llb_model.specs.State.{State, Execution, runs}
use Rattle.llb_execution.specs.WorkspaceTrees.{mounts_of}
use Rattle.llb_board.specs.WorkedOnAndCachedTrees.{worked_on}

-- ---- the command and its mounts

-- the mounts, with this tree in place of the tree of mount i; the same mounts if there is no tree
abbrev pub with_tree_at : List Shown → ℕ → Option TreeMap → List Shown
with_tree_at mounts i None = mounts
with_tree_at mounts i (Some t) = with_tree_of mounts i t

-- the mounts of what worker w runs: mounts 0 to i - 1 have the trees that worker w works on now (also those of caches)
unfoldable pub shown_now : State → ℕ → List Shown → ℕ → List Shown
shown_now s w mounts zero = mounts
shown_now s w mounts (suc i) = with_tree_at (shown_now s w mounts i) i (worked_on s w i)

-- the mounts of the exec that is run, if one is
abbrev pub mounts_run : Option Execution → Option (List Shown)
mounts_run o = option_and_then mounts_of (option_map (λ (x : Execution). x.own) o)

-- the vertex that is run, if one is
abbrev pub vertex_run : Build → Option Execution → Option Vertex
vertex_run b None = None
vertex_run b (Some x) = slice_get b.graph.vertices x.vertex

-- the first cause by which a micro-step fails on these mounts, if it is a command and fails
abbrev pub cause_in : List Shown → Option MicroStep → Option Cause
cause_in view (Some (Run setting command ends)) = cause_of setting view command.command
cause_in view (Some ReadLocal) = None
cause_in view (Some (Act action)) = None
cause_in view (Some (LayInput i)) = None
cause_in view None = None

-- the first cause by which micro-step k of a vertex fails, given the vertex and the mounts that a worker has for it
abbrev pub cause_on : State → ℕ → ℕ → Option (List Shown) → Option Vertex → Option Cause
cause_on s w k None v = None
cause_on s w k (Some mounts) None = None
cause_on s w k (Some mounts) (Some v) = cause_in (shown_now s w mounts (length mounts)) (slice_get (program_of v).steps k)

-- the first cause by which command k of the exec that worker w runs fails on the trees that it works on now; nothing if w runs no exec, if the exec has no
-- command k, or if the command would end with status 0
abbrev pub cause_at : Build → State → ℕ → ℕ → Option Cause
cause_at b s w k = cause_on s w k (mounts_run (runs (slice_get s.workers w))) (vertex_run b (runs (slice_get s.workers w)))

-- ---- texts

-- what is said before the path of a cause
abbrev pub before_path : What → List ℕ
before_path what.TooLong = []
before_path what.Nothing = codes "nothing is at "
before_path what.NoFile = codes "there is no file "
before_path what.NoDir = codes "there is no directory "
before_path what.IsFile = []
before_path what.IsDir = []
before_path what.IsThere = []
before_path what.IsDest = []
before_path what.NoSelector = codes "the selector of the mount "
before_path what.ReadOnly = codes "the mount "

-- what is said after the path of a cause
abbrev pub after_path : What → List ℕ
after_path what.TooLong = codes " has more than 128 names in the tree of its mount"
after_path what.Nothing = []
after_path what.NoFile = []
after_path what.NoDir = []
after_path what.IsFile = codes " is a file"
after_path what.IsDir = codes " is a directory"
after_path what.IsThere = codes " is there already"
after_path what.IsDest = codes " is where a mount is"
after_path what.NoSelector = codes " is nothing in its tree"
after_path what.ReadOnly = codes " is read-only"

-- a cause in words
abbrev pub cause_text : Cause → List ℕ
cause_text Always = codes "it always fails"
cause_text (NoPath n) = codes "word " ++ (decimal n ++ codes " is not a path")
cause_text (At w path) = before_path w ++ (path_text path ++ after_path w)
