-- What a vertex does: its program (a list of micro-steps), the work that micro-steps change, the result of the first k of them, and the caches that it needs.
use Rattle.std.specs.Prelude.{ℕ, zero, suc, ◌+◌, ◌==◌, ℤ, pos, negsuc, Bool, true, false, not, List, [], ◌∷◌, ◌++◌, length, map, Option, Some, None}
use Rattle.std.specs.Prelude.{option_map, unwrap_or, slice_get, Result, Ok, Err, if◌then◌else◌}
use Rattle.std.specs.List.{list_any, list_all, range_with_len}
use Rattle.std.specs.Ordering.{int_eq}
use Rattle.llb_ops.specs.declared.file_op.Action.{Action}
use Rattle.llb_cache.specs.declared.key.Key.{Key}
use Rattle.llb_cache.specs.declared.key.Seed.{Seed}
use Rattle.llb_cache.specs.declared.key.Mode.{Mode}
use Rattle.llb_cache.specs.declared.key.Mode.TheVariants.{Shared, Private, Locked}
use Rattle.llb_ops.specs.declared.op.Input.{Input}
use Rattle.llb_ops.specs.declared.op.Kind.{Kind}
use Rattle.llb_ops.specs.declared.op.Kind.TheVariants as kind
use Rattle.llb_ops.specs.declared.merge.MergeInput.{MergeInput}
use Rattle.llb_ops.specs.declared.exec.Meta.{Meta}
use Rattle.llb_ops.specs.declared.exec.Mount.{Mount}
use Rattle.llb_loader.specs.Mounts as mounts
use Rattle.llb_loader.specs.Mounts.{bind, cache, tmpfs, has_type, read_as, CacheKey}
use Rattle.llb_loader.specs.Rules.{kind_mounts, mount_outputs}
use Rattle.llb_mount.specs.declared.shown_tree.Shown.{Shown}
use Rattle.llb_mount.specs.View.{mount_at, with_tree_of}
use Rattle.llb_applet.specs.declared.directory_and_variables.Setting.{Setting}
use Rattle.llb_applet.specs.declared.joined_commands.Join.{Join}
use Rattle.llb_applet.specs.declared.joined_commands.Join.TheVariants.{Then, And, Or}
use Rattle.llb_applet.specs.declared.joined_commands.Joined.{Joined}
use Rattle.llb_applet.specs.Commands.{run, status_of}
use Rattle.llb_loader.specs.Graph.{Numbered}
use Rattle.llb_loader.specs.LocalSources.{Local, local_name, tree_of_local}
use Rattle.llb_loader.specs.declared.graph.Vertex.{Vertex}
use Rattle.llb_tree.specs.Tree.{TreeMap, empty_tree}
use Rattle.llb_tree.specs.declared.fault.TreeFault.{TreeFault}
use Rattle.llb_tree.specs.declared.fault.TreeFault.TheVariants.{NotFound, NotDir, IsDir, Conflict, Root, BadName, Memory}
use Rattle.llb_fileop.specs.declared.fault.ActFault.{ActFault}
use Rattle.llb_fileop.specs.declared.fault.ActFault.TheVariants as act_fault
use Rattle.llb_fileop.specs.FileActions.{act}
use Rattle.llb_merge.specs.Laying.{lay}
use Rattle.llb_events.specs.declared.fault.VertexFault.{VertexFault}
use Rattle.llb_events.specs.declared.fault.VertexFault.TheVariants as fault

-- what a run is given: the graph, and the trees of local sources by name
pub record Build : Type 0 where
  pub graph : Numbered
  pub locals : List Local

-- one micro-step: the read of a source; an action of a file op; the laying of a merge's input over the inputs before it; a command of an exec, with its setting
-- (directory and variables), and whether every later command of the script is joined by And
pub data MicroStep : Type 0 where
  ReadLocal : MicroStep
  Act : Action → MicroStep
  LayInput : ℤ → MicroStep
  Run : Setting → Joined → Bool → MicroStep

-- the micro-steps of a vertex, how many outputs it has, and, for an exec, the output number of each mount
pub record Program : Type 0 where
  pub steps : List MicroStep
  pub outputs : ℕ
  pub output_numbers : List ℤ

-- what a program works on, without the trees of caches. Source: its local tree. File op: the trees of its inputs and the results so far. Merge: the trees of
-- its inputs and what is laid so far. Exec: its mounts, the numbers of the cache mounts (whose trees are empty here), and the status of the last command
-- that ran, which is 0 before any command has run
pub data Workspace : Type 0 where
  LocalTree : TreeMap → Workspace
  Files : List TreeMap → List TreeMap → Workspace
  Layers : List TreeMap → TreeMap → Workspace
  Mounted : List Shown → List ℕ → ℕ → Workspace

-- all that micro-steps work on: the workspace, and the trees of the cache instances that the vertex holds, in the order of its needs (see `Need`)
pub record Work : Type 0 where
  pub own : Workspace
  pub trees : List TreeMap

-- the result of micro-steps: the work after them, and the first fault if there is one
pub record Left : Type 0 where
  pub work : Work
  pub fault : Option VertexFault

-- what a Ready vertex begins with: the vertex, and the trees of its inputs
pub record Start : Type 0 where
  pub vertex : Vertex
  pub inputs : List TreeMap

-- the `Start` of a vertex, which has the vertex and the trees of its inputs
abbrev pub start_with : Vertex → List TreeMap → Start
start_with v trees = record { vertex = v; inputs = trees }

-- the path that a text spells; the root if the text spells no path (in a loaded graph every cwd, dest and selector spells a path)
abbrev pub path_in : List ℕ → List (List ℕ)
path_in text = unwrap_or (read_as text) []

-- ---- the caches that a vertex needs

-- a need: a cache mount's number, the key of its cache, and the number of the input whose tree a new instance begins with (-1: the empty tree)
pub record Need : Type 0 where
  pub mount : ℕ
  pub key : Key
  pub input : ℤ

-- the key of a need
abbrev pub key_of : Need → Key
key_of n = n.key

-- the number of the mount that a need is for
abbrev pub mount_of : Need → ℕ
mount_of n = n.mount

-- the sharing mode with this number in the message of a cache mount: 1 is private, 2 is locked, any other number is shared
abbrev pub mode_of : ℤ → Mode
mode_of n = if int_eq n (pos 1) then Private else if int_eq n (pos 2) then Locked else Shared

-- an integer as the index of an output; 0 for a negative integer (in a loaded graph no index is negative)
abbrev pub index_of : ℤ → ℕ
index_of (pos n) = n
index_of (negsuc n) = 0

-- a seed of the loader (the digest of an entry, and an output index) as a seed of llb_cache: the index becomes a natural number
abbrev pub seed_as : mounts.Seed → Seed
seed_as s = record { digest = s.digest; index = index_of s.index }

-- the loader's key of a cache mount, as a key of llb_cache
abbrev pub key_as : CacheKey → Key
key_as k = record { id = k.id; seed = option_map seed_as k.seed; mode = mode_of k.mode }

-- the needs of mount i and of all later mounts, given the key of mount i (none if mount i shows no cache) and the needs of the later mounts
abbrev pub with_need : ℕ → Mount → Option CacheKey → List Need → List Need
with_need i m (Some k) needs = record { mount = i; key = key_as k; input = m.input } ∷ needs
with_need i m None needs = needs

-- the needs of mounts that are numbered from i
abbrev pub needs_from : List Input → ℕ → List Mount → List Need
needs_from inputs i [] = []
needs_from inputs i (m ∷ ms) = with_need i m (mounts.key_of inputs m) (needs_from inputs (i + 1) ms)

-- the needs of a vertex: the caches that its mounts show, in the order of the mounts
abbrev pub needs_of : Vertex → List Need
needs_of v = needs_from v.op.inputs 0 (kind_mounts v.op.kind)

-- whether a vertex has a mount that shows a cache
abbrev pub has_cache : Vertex → Bool
has_cache v = list_any (has_type cache) (kind_mounts v.op.kind)

-- ---- programs

-- the setting of an exec's commands: the `cwd` and the `env` of its meta; every exec of a loaded graph has a meta
abbrev pub setting_of : Option Meta → Setting
setting_of (Some m) = record { cwd = path_in m.cwd; env = m.env }
setting_of None = record { cwd = []; env = [] }

-- whether a join is And: a command with this join runs only after status 0
abbrev pub is_and : Join → Bool
is_and And = true
is_and Then = false
is_and Or = false

-- whether each of these commands is joined by And
abbrev pub all_and : List Joined → Bool
all_and cs = list_all (λ (c : Joined). is_and c.join) cs

-- the micro-steps of a script: one for each command
abbrev pub runs_of : Setting → List Joined → List MicroStep
runs_of setting [] = []
runs_of setting (c ∷ cs) = Run setting c (all_and cs) ∷ runs_of setting cs

-- the micro-steps of an op of this kind; those of an exec are the commands of its script
abbrev pub steps_of : Option Kind → Option (List Joined) → List MicroStep
steps_of (Some (kind.Source s)) script = ReadLocal ∷ []
steps_of (Some (kind.File f)) script = map Act f.actions
steps_of (Some (kind.Merge m)) script = map (λ (i : MergeInput). LayInput i.input) m.inputs
steps_of (Some (kind.Exec x)) script = runs_of (setting_of x.meta) (unwrap_or script [])
steps_of (Some (kind.Build b)) script = []
steps_of (Some (kind.Diff d)) script = []
steps_of None script = []

-- the program of a vertex
abbrev pub program_of : Vertex → Program
program_of v = record { steps = steps_of v.op.kind v.script; outputs = v.outputs; output_numbers = mount_outputs (kind_mounts v.op.kind) }

-- the program of a vertex; a program without micro-steps if there is no vertex
abbrev pub program_at : Option Vertex → Program
program_at (Some v) = program_of v
program_at None = record { steps = []; outputs = 0; output_numbers = [] }

-- the local tree of a source; the empty tree if no tree is given for the source's name
abbrev pub local_tree : List Local → Vertex → TreeMap
local_tree locals v = unwrap_or (tree_of_local locals (unwrap_or (local_name v.op) [])) empty_tree

-- tree n of a list (the trees of an op's inputs, then the results of its earlier actions); the empty tree for -1, or if the list has no tree n
abbrev pub base_in : ℤ → List TreeMap → TreeMap
base_in (pos n) trees = unwrap_or (slice_get trees n) empty_tree
base_in (negsuc n) trees = empty_tree

-- the tree that a mount shows at first: for a bind mount the tree of its input, for any other mount the empty tree
abbrev pub tree_shown : List TreeMap → Mount → TreeMap
tree_shown inputs m = if has_type bind m then base_in m.input inputs else empty_tree

-- the path, in a mount's tree, of what is seen at the mount's dest; the root for a tmpfs
abbrev pub selector_of : Mount → List (List ℕ)
selector_of m = if has_type tmpfs m then [] else path_in m.selector

-- a mount in the workspace of an exec before its first micro-step
abbrev pub shown_of : List TreeMap → Mount → Shown
shown_of inputs m = record { dest = path_in m.dest; selector = selector_of m; readonly = m.readonly; tree = tree_shown inputs m }

-- the workspace of a vertex before its first micro-step, by the kind of its op
abbrev pub workspace_on : List Local → Vertex → Option Kind → List TreeMap → Workspace
workspace_on locals v (Some (kind.Source s)) inputs = LocalTree (local_tree locals v)
workspace_on locals v (Some (kind.File f)) inputs = Files inputs []
workspace_on locals v (Some (kind.Merge m)) inputs = Layers inputs empty_tree
workspace_on locals v (Some (kind.Exec x)) inputs = Mounted (map (shown_of inputs) x.mounts) (map mount_of (needs_of v)) 0
workspace_on locals v (Some (kind.Build b)) inputs = Files inputs []
workspace_on locals v (Some (kind.Diff d)) inputs = Files inputs []
workspace_on locals v None inputs = Files inputs []

-- the work of a vertex before its first micro-step, if its cache instances have these trees
abbrev pub begin : Build → Start → List TreeMap → Work
begin b start trees = record { own = workspace_on b.locals start.vertex start.vertex.op.kind start.inputs; trees = trees }

-- the number of a `TreeFault`, the fault of a call on a tree
abbrev pub tree_fault_number : TreeFault → ℕ
tree_fault_number NotFound = 21
tree_fault_number NotDir = 22
tree_fault_number IsDir = 23
tree_fault_number Conflict = 24
tree_fault_number Root = 25
tree_fault_number BadName = 26
tree_fault_number Memory = 27

-- the number of a failed action's fault; if the action failed by a call on a tree, the number of that call's fault
abbrev pub fault_number : ActFault → ℕ
fault_number (act_fault.File f) = tree_fault_number f
fault_number act_fault.BadPattern = 52
fault_number act_fault.Memory = 53

-- the trees that an action can name by number: the trees of the inputs, then the results so far
abbrev pub trees_in : Workspace → List TreeMap
trees_in (Files inputs results) = inputs ++ results
trees_in (LocalTree t) = []
trees_in (Layers inputs t) = inputs
trees_in (Mounted mounts caches last) = []

-- the workspace of a file op after one more result is appended; any other workspace is unchanged
abbrev pub with_tree : Workspace → TreeMap → Workspace
with_tree (Files inputs results) t = Files inputs (results ++ t ∷ [])
with_tree (LocalTree own) t = LocalTree own
with_tree (Layers inputs laid) t = Layers inputs laid
with_tree (Mounted mounts caches last) t = Mounted mounts caches last

-- the workspace of a file op after the result of action number `a` is appended; if the action failed, its fault as a fault of the vertex
abbrev pub with_result : ℕ → Workspace → Result TreeMap ActFault → Result Workspace VertexFault
with_result a workspace (Ok t) = Ok (with_tree workspace t)
with_result a workspace (Err f) = Err (fault.Action a (fault_number f))

-- the tree that an action makes of its input's tree, or the action's fault; a copy also reads the tree of its secondary input
abbrev pub act_among : Action → List TreeMap → Result TreeMap ActFault
act_among action trees = act action.kind (base_in action.input trees) (base_in action.secondary_input trees)

-- the workspace after action number `a`, or the action's fault
abbrev pub act_on : ℕ → Action → Workspace → Result Workspace VertexFault
act_on a action workspace = with_result a workspace (act_among action (trees_in workspace))

-- the workspace of a merge after input i is laid over what is laid so far; any other workspace is unchanged
abbrev pub lay_on : ℤ → Workspace → Workspace
lay_on i (Layers inputs t) = Layers inputs (lay t (base_in i inputs))
lay_on i (LocalTree t) = LocalTree t
lay_on i (Files inputs results) = Files inputs results
lay_on i (Mounted mounts caches last) = Mounted mounts caches last

-- the mounts after trees are put into some of them: each mount whose number is in the list gets the tree at the same position of the other list
abbrev pub filled : List Shown → List ℕ → List TreeMap → List Shown
filled mounts [] trees = mounts
filled mounts (m ∷ ms) [] = mounts
filled mounts (m ∷ ms) (t ∷ trees) = filled (with_tree_of mounts m t) ms trees

-- the list `trees`, with item i replaced by the tree of the mount that item i of the list of numbers names; items of `trees` beyond the numbers stay
abbrev pub taken : List Shown → List ℕ → List TreeMap → List TreeMap
taken mounts ms [] = []
taken mounts [] (t ∷ trees) = t ∷ trees
taken mounts (m ∷ ms) (t ∷ trees) = (mount_at mounts m).tree ∷ taken mounts ms trees

-- the mounts after the empty tree is put into each mount whose number is in the list `ms`; of `ms`, only the first `length trees` numbers are used
abbrev pub blanked : List Shown → List ℕ → List TreeMap → List Shown
blanked mounts ms trees = filled mounts ms (map (λ t. empty_tree) trees)

-- the work after a command with status 0: the mounts as the command left them; but the trees of cache mounts are moved to the work's field `trees`
abbrev pub parted : List ℕ → List TreeMap → List Shown → Work
parted caches trees mounts = record { own = Mounted (blanked mounts caches trees) caches 0; trees = taken mounts caches trees }

-- the status of the last command that ran; 0 for a workspace that is not an exec's
abbrev pub last_of : Workspace → ℕ
last_of (Mounted mounts caches last) = last
last_of (LocalTree t) = 0
last_of (Files inputs results) = 0
last_of (Layers inputs t) = 0

-- whether a command with this join runs, given the status of the last command that ran; else it is skipped
abbrev pub is_run : Join → ℕ → Bool
is_run Then last = true
is_run And last = last == 0
is_run Or last = not (last == 0)

-- the result of a micro-step that leaves this work and has no fault
abbrev pub no_fault : Work → Left
no_fault work = record { work = work; fault = None }

-- the work after a command ran: the view that the command left or, if it failed, the mounts and trees from before; the last status is the command's status
abbrev pub after_run : List Shown → List ℕ → List TreeMap → Option (List Shown) → Work
after_run mounts caches trees (Some after) = parted caches trees after
after_run mounts caches trees None = record { own = Mounted mounts caches (status_of None); trees = trees }

-- the exec's fault after command c ended with a status: there is a fault if the status is not 0 and every later command is joined by And (`ends`)
abbrev pub exit_of : ℕ → Bool → ℕ → Option VertexFault
exit_of c ends status = if status == 0 then None else (if ends then Some (fault.Exit c status) else None)

-- the result of command c after it ran: the work, and the exec's fault if there is one
abbrev pub ran : ℕ → Bool → List Shown → List ℕ → List TreeMap → Option (List Shown) → Left
ran c ends mounts caches trees after = record { work = after_run mounts caches trees after; fault = exit_of c ends (status_of after) }

-- the result of command c on the workspace of an exec, given the current trees of its cache instances; a command that is skipped changes nothing
abbrev pub run_on : ℕ → Setting → Joined → Bool → Workspace → List TreeMap → Left
run_on c setting command ends (Mounted mounts caches last) trees =
    if is_run command.join last then ran c ends mounts caches trees (run setting (filled mounts caches trees) command.command)
    else no_fault (record { own = Mounted mounts caches last; trees = trees })
run_on c setting command ends (LocalTree t) trees = no_fault (record { own = LocalTree t; trees = trees })
run_on c setting command ends (Files inputs results) trees = no_fault (record { own = Files inputs results; trees = trees })
run_on c setting command ends (Layers inputs t) trees = no_fault (record { own = Layers inputs t; trees = trees })

-- the result of an action: the new workspace, or the work unchanged and the fault
abbrev pub tried : Work → Result Workspace VertexFault → Left
tried work (Ok workspace) = no_fault (record work { own = workspace })
tried work (Err f) = record { work = work; fault = Some f }

-- the result of micro-step k: the work after the micro-step, and its fault if it has one
unfoldable pub micro_step : ℕ → MicroStep → Work → Left
micro_step k ReadLocal work = no_fault work
micro_step k (Act action) work = tried work (act_on k action work.own)
micro_step k (LayInput i) work = no_fault (record work { own = lay_on i work.own })
micro_step k (Run setting command ends) work = run_on k setting command ends work.own work.trees

-- the result of micro-step k if there is one; else the work unchanged
abbrev pub step_on : ℕ → Option MicroStep → Work → Left
step_on k None work = no_fault work
step_on k (Some m) work = micro_step k m work

-- the earlier result if it has a fault, else the next result
abbrev pub unless_faulted : Option VertexFault → Left → Left → Left
unless_faulted None left next = next
unless_faulted (Some f) left next = left

-- the result after micro-step k, given the result before it; if there was a fault before, the micro-step is not done
abbrev pub go_on : List MicroStep → ℕ → Left → Left
go_on steps k left = unless_faulted left.fault left (step_on k (slice_get steps k) left.work)

-- the result of the first k micro-steps on a work: the work after them, and the first fault if there is one
unfoldable pub part : List MicroStep → Work → ℕ → Left
part steps work zero = record { work = work; fault = None }
part steps work (suc k) = go_on steps k (part steps work k)

-- the result of all micro-steps on a work
abbrev pub whole : List MicroStep → Work → Left
whole steps work = part steps work (length steps)

-- whether an output number is i
abbrev pub is_output : ℕ → ℤ → Bool
is_output i (pos n) = n == i
is_output i (negsuc n) = false

-- the result of the first action whose output number is i; the empty tree if there is none
abbrev pub result_for : ℕ → List MicroStep → List TreeMap → TreeMap
result_for i [] results = empty_tree
result_for i (m ∷ steps) [] = empty_tree
result_for i (Act a ∷ steps) (t ∷ results) = if is_output i a.output then t else result_for i steps results
result_for i (ReadLocal ∷ steps) (t ∷ results) = result_for i steps results
result_for i (LayInput n ∷ steps) (t ∷ results) = result_for i steps results
result_for i (Run setting command ends ∷ steps) (t ∷ results) = result_for i steps results

-- the whole tree of the first mount whose output number is i; the empty tree if there is none
abbrev pub tree_for : ℕ → List ℤ → List Shown → TreeMap
tree_for i [] mounts = empty_tree
tree_for i (n ∷ numbers) [] = empty_tree
tree_for i (n ∷ numbers) (m ∷ mounts) = if is_output i n then m.tree else tree_for i numbers mounts

-- output i of a program after all its micro-steps. File op: the result of the action with the output number i. Source: the tree that is read. Merge: the tree
-- that is laid. Exec: the whole tree of the mount with the output number i.
abbrev pub output_from : Program → Workspace → ℕ → TreeMap
output_from p (Files inputs results) i = result_for i p.steps results
output_from p (LocalTree t) zero = t
output_from p (LocalTree t) (suc i) = empty_tree
output_from p (Layers inputs t) zero = t
output_from p (Layers inputs t) (suc i) = empty_tree
output_from p (Mounted mounts caches last) i = tree_for i p.output_numbers mounts

-- the outputs of a program, given the workspace after all its micro-steps
unfoldable pub outputs_of : Program → Workspace → List TreeMap
outputs_of p workspace = map (output_from p workspace) (range_with_len 0 p.outputs)
