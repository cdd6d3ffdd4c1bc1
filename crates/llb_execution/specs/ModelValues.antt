-- Which values of the machine's definitions (llb_model) the values of this crate's types represent.
use Rattle.std.specs.Prelude.{ℕ, Bool, false, not, Option, List, [], ◌∷◌, length, map}
use Rattle.llb_tree.specs.Tree.{TreeMap}
use Rattle.llb_model.specs.Program as model
use Rattle.llb_events.specs.declared.fault.VertexFault.{VertexFault}
use Rattle.llb_execution.specs.declared.micro_step.MicroStep.{MicroStep}
use Rattle.llb_execution.specs.declared.micro_step.MicroStep.TheVariants as step
use Rattle.llb_execution.specs.declared.steps.ByKind.{ByKind}
use Rattle.llb_execution.specs.declared.steps.ByKind.TheVariants as steps
use Rattle.llb_execution.specs.declared.workspace.WorkState.{WorkState}
use Rattle.llb_execution.specs.declared.workspace.WorkState.TheVariants as own

-- ---- programs

-- the micro-step that a value of the code's type `MicroStep` represents
abbrev pub step_in : MicroStep → model.MicroStep
step_in step.ReadLocal = model.ReadLocal
step_in (step.Act action) = model.Act action.now
step_in (step.LayInput number) = model.LayInput number
step_in (step.Run setting command later) = model.Run setting.now command.now (model.all_and later.now)

-- the list of micro-steps that a value of the code's type `ByKind` represents
abbrev pub steps_in : ByKind → List model.MicroStep
steps_in steps.Nothing = []
steps_in steps.Read = model.ReadLocal ∷ []
steps_in (steps.Actions actions) = map model.Act actions
steps_in (steps.Inputs numbers) = map model.LayInput numbers.items
steps_in (steps.Commands setting script) = model.runs_of setting script

-- ---- workspaces

-- the workspace that a value of the code's type `WorkState` represents
abbrev pub own_of : WorkState → model.Workspace
own_of (own.Local t) = model.LocalTree t
own_of (own.Files inputs results) = model.Files inputs.items results.items
own_of (own.Layers inputs t) = model.Layers inputs.items t
own_of (own.Mounted mounts numbers last) = model.Mounted mounts numbers.items last

-- how many mounts an exec's workspace has; 0 for a workspace of another kind
abbrev pub mounts_in : model.Workspace → ℕ
mounts_in (model.Mounted mounts caches last) = length mounts
mounts_in (model.LocalTree t) = 0
mounts_in (model.Files inputs results) = 0
mounts_in (model.Layers inputs t) = 0

-- the numbers of the mounts that show caches, in an exec's workspace; no numbers for a workspace of another kind
abbrev pub shown_in : model.Workspace → List ℕ
shown_in (model.Mounted mounts caches last) = caches
shown_in (model.LocalTree t) = []
shown_in (model.Files inputs results) = []
shown_in (model.Layers inputs t) = []

-- ---- micro-steps

-- the work that a workspace and the trees of its cache instances make up
abbrev pub work_with : model.Workspace → List TreeMap → model.Work
work_with workspace trees = record { own = workspace; trees = trees }

-- the result of a micro-step: this workspace, these trees of the cache instances, and this fault, if there is one
abbrev pub left_with : model.Workspace → List TreeMap → Option VertexFault → model.Left
left_with workspace trees fault = record { work = work_with workspace trees; fault = fault }

-- whether a micro-step is a command that is skipped, by its join and the last status in the workspace
abbrev pub is_skipped : model.MicroStep → model.Workspace → Bool
is_skipped (model.Run setting command ends) workspace = not (model.is_run command.join (model.last_of workspace))
is_skipped model.ReadLocal workspace = false
is_skipped (model.Act action) workspace = false
is_skipped (model.LayInput number) workspace = false
