-- The rules that an op has to meet to become a vertex, in the order in which they are checked, and how many micro-steps and outputs an op has.
use Rattle.std.specs.Prelude.{◌≡◌, ◌≢◌, ℕ, zero, ◌+◌, ℤ, pos, negsuc, ◌≤ℤ◌, ◌<ℤ◌, Bool, true, false, ◌||◌, ◌⊎◌, List, [], ◌∷◌, length}
use Rattle.std.specs.Prelude.{IsSome, ⊤, ◌<◌, map, count_by, Option, Some, None, slice_index_or, unwrap_or, codes}
use Rattle.std.specs.List.{All, Contains}
use Rattle.llb_loader.specs.declared.fault.Rule.{Rule}
use Rattle.llb_loader.specs.declared.fault.Rule.TheVariants as rule
use Rattle.llb_ops.specs.declared.op.Op.{Op}
use Rattle.llb_ops.specs.declared.op.Input.{Input}
use Rattle.llb_ops.specs.declared.op.Kind.{Kind}
use Rattle.llb_ops.specs.declared.op.Kind.TheVariants.{Exec, Source, File, Merge}
use Rattle.llb_ops.specs.declared.exec.ExecOp.{ExecOp}
use Rattle.llb_ops.specs.declared.exec.Meta.{Meta}
use Rattle.llb_ops.specs.declared.exec.Mount.{Mount}
use Rattle.llb_ops.specs.declared.exec.CacheOpt.{CacheOpt}
use Rattle.llb_ops.specs.declared.file_op.Action.{Action}
use Rattle.llb_ops.specs.declared.file_op.FileOp.{FileOp}
use Rattle.llb_ops.specs.declared.file_op.ActionKind.{ActionKind}
use Rattle.llb_ops.specs.declared.file_op.ActionKind.TheVariants.{Copy, MkFile, MkDir}
use Rattle.llb_ops.specs.declared.owners.ChownOpt.{ChownOpt}
use Rattle.llb_ops.specs.declared.owners.UserOpt.{UserOpt}
use Rattle.llb_ops.specs.declared.owners.User.{User}
use Rattle.llb_ops.specs.declared.owners.User.TheVariants.{ByName}
use Rattle.llb_ops.specs.declared.merge.MergeOp.{MergeOp}
use Rattle.llb_ops.specs.declared.source.SourceOp.{SourceOp}
use Rattle.llb_applet.specs.declared.fault.ScriptFault.{ScriptFault}
use Rattle.llb_loader.specs.Scripts.{commands_in, script_fault}
use Rattle.llb_loader.specs.Mounts.{bind, cache, tmpfs, dests_of, keys_of, AreApart, ReadsPaths}

-- the number -1, which means no input or no output
abbrev pub none : ℤ
none = negsuc 0

-- whether a field `output` has the number of an output: it is not -1
abbrev pub is_output : ℤ → Bool
is_output (negsuc zero) = false
is_output _ = true

-- the actions of a file op; none for any other kind
abbrev pub kind_actions : Option Kind → List Action
kind_actions (Some (File f)) = f.actions
kind_actions _ = []

-- the actions of an op; none if it is no file op
abbrev pub actions_of : Op → List Action
actions_of op = kind_actions op.kind

-- the mounts of an exec; none for any other kind
abbrev pub kind_mounts : Option Kind → List Mount
kind_mounts (Some (Exec x)) = x.mounts
kind_mounts _ = []

-- the owner that an action sets, if it sets one
abbrev pub owner_of : Option ActionKind → Option ChownOpt
owner_of (Some (MkFile m)) = m.owner
owner_of (Some (MkDir m)) = m.owner
owner_of (Some (Copy c)) = c.owner
owner_of _ = None

-- whether a user is given by name
abbrev pub is_by_name : Option User → Bool
is_by_name (Some (ByName n)) = true
is_by_name _ = false

-- whether a user or group is given by name
abbrev pub user_by_name : Option UserOpt → Bool
user_by_name (Some u) = is_by_name u.user
user_by_name None = false

-- whether the user or the group of an owner is given by name
abbrev pub owner_by_name : Option ChownOpt → Bool
owner_by_name (Some o) = user_by_name o.user || user_by_name o.group
owner_by_name None = false

-- i is from -1 to n - 1: -1 for no input, else one of n inputs
pub record IsInput (n : ℕ) (i : ℤ) : Type 0 where
  pub low : none ≤ℤ i
  pub high : i <ℤ pos n

-- i is from 0 to n - 1
pub record IsBelow (n : ℕ) (i : ℤ) : Type 0 where
  pub low : pos 0 ≤ℤ i
  pub high : i <ℤ pos n

-- The input of each action is one of the op's n inputs, the result of an earlier action, or none.
abbrev pub ActionInputs : ℕ → List Action → Type 0
ActionInputs n actions = (a : ℕ) (d : Action) → a < length actions → IsInput (n + a) (slice_index_or actions a d).input

-- whether an action may have this `secondaryInput`: a copy that can name n trees may have 0 to n - 1, or -1 for the empty tree; any other action any number
abbrev pub TakesSecond : ℕ → Option ActionKind → ℤ → Type 0
TakesSecond n (Some (Copy c)) second = IsInput n second
TakesSecond n _ second = ⊤

-- The second input of each copy is one of the op's n inputs, the result of an earlier action, or none.
abbrev pub SecondInputs : ℕ → List Action → Type 0
SecondInputs n actions = (a : ℕ) (d : Action) → a < length actions
    → TakesSecond (n + a) (slice_index_or actions a d).kind (slice_index_or actions a d).secondary_input

-- the input of each action, and the second input of each copy, is an input of the op, the result of an earlier action, or none
pub record TakeInputs (n : ℕ) (actions : List Action) : Type 0 where
  pub first : ActionInputs n actions
  pub second : SecondInputs n actions

-- the output numbers of actions
abbrev pub outputs_of : List Action → List ℤ
outputs_of actions = map (λ a. a.output) actions

-- how many of these numbers are other than -1
abbrev pub count_outputs : List ℤ → ℕ
count_outputs outputs = count_by is_output outputs

-- the output number at a position; -1 past the end
abbrev pub output_at : List ℤ → ℕ → ℤ
output_at outputs a = slice_index_or outputs a none

-- If m of the numbers are other than -1, these m numbers are the numbers from 0 to m - 1, each once.
pub record AreOutputs (outputs : List ℤ) : Type 0 where
  pub within : (a : ℕ) → output_at outputs a ≢ none → IsBelow (count_outputs outputs) (output_at outputs a)
  pub once : (a b : ℕ) → output_at outputs a ≢ none → output_at outputs a ≡ output_at outputs b → a ≡ b
  pub each : (j : ℕ) → j < count_outputs outputs → (a : ℕ) × (output_at outputs a ≡ pos j)

-- ---- mounts

-- the output numbers of mounts
abbrev pub mount_outputs : List Mount → List ℤ
mount_outputs mounts = map (λ m. m.output) mounts

-- if the mount is a bind or a cache mount, it shows one of n inputs, or nothing
abbrev pub ShowsInput : ℕ → Mount → Type 0
ShowsInput n m = (m.mount_type ≡ bind) ⊎ (m.mount_type ≡ cache) → IsInput n m.input

-- if the mount is a cache mount, it has options
abbrev pub HasOptions : Mount → Type 0
HasOptions m = m.mount_type ≡ cache → IsSome m.cache_opt

-- the options of a cache, if there are any, name one of the three sharing modes
abbrev pub IsKnownSharing : Option CacheOpt → Type 0
IsKnownSharing (Some c) = IsBelow 3 c.sharing
IsKnownSharing None = ⊤

-- if the mount is a cache mount and has options, the options name one of the three sharing modes
abbrev pub IsShared : Mount → Type 0
IsShared m = m.mount_type ≡ cache → IsKnownSharing m.cache_opt

-- the outputs of mounts are numbered from 0, each once, and no cache or tmpfs mount has an output
pub record AreMountOutputs (mounts : List Mount) : Type 0 where
  pub numbered : AreOutputs (mount_outputs mounts)
  pub caches : All (λ m. m.mount_type ≡ cache → m.output ≡ none) mounts
  pub tmpfs : All (λ m. m.mount_type ≡ tmpfs → m.output ≡ none) mounts

-- a `Meta`, if there is one, has at least one word in `args`
abbrev pub HasWord : Option Meta → Type 0
HasWord (Some meta) = 0 < length meta.args
HasWord None = ⊤

-- ---- how many micro-steps and outputs an op has

-- how many micro-steps an op of this kind has
abbrev pub kind_steps : Option Kind → ℕ
kind_steps (Some (Source s)) = 1
kind_steps (Some (Exec x)) = length (unwrap_or (commands_in x.meta) [])
kind_steps (Some (File f)) = length f.actions
kind_steps (Some (Merge m)) = length m.inputs
kind_steps _ = 0

-- how many micro-steps an op has
abbrev pub step_count : Op → ℕ
step_count op = kind_steps op.kind

-- how many outputs an op of this kind has
abbrev pub kind_outputs : Option Kind → ℕ
kind_outputs (Some (Source s)) = 1
kind_outputs (Some (Merge m)) = 1
kind_outputs (Some (File f)) = count_outputs (outputs_of f.actions)
kind_outputs (Some (Exec x)) = count_outputs (mount_outputs x.mounts)
kind_outputs _ = 0

-- how many outputs an op has
abbrev pub output_count : Op → ℕ
output_count op = kind_outputs op.kind

-- ---- properties of ops of one kind

-- if the op is a source, it has the property P
abbrev pub OfSource : (SourceOp → Type 0) → Option Kind → Type 0
OfSource P (Some (Source s)) = P s
OfSource P _ = ⊤

-- if the op is a file op, it has the property P
abbrev pub OfFile : (FileOp → Type 0) → Option Kind → Type 0
OfFile P (Some (File f)) = P f
OfFile P _ = ⊤

-- if the op is an exec, it has the property P
abbrev pub OfExec : (ExecOp → Type 0) → Option Kind → Type 0
OfExec P (Some (Exec x)) = P x
OfExec P _ = ⊤

-- if the op is a merge, it has the property P
abbrev pub OfMerge : (MergeOp → Type 0) → Option Kind → Type 0
OfMerge P (Some (Merge m)) = P m
OfMerge P _ = ⊤

-- ---- the rules

-- an op of this kind with these inputs meets this rule
abbrev pub Meets : List Input → Option Kind → Rule → Type 0
Meets inputs kind rule.NoKind = IsSome kind
Meets inputs kind rule.LocalName = OfSource (λ s. s.identifier ≢ codes "local://") kind
Meets inputs kind rule.NoActions = OfFile (λ f. 0 < length f.actions) kind
Meets inputs kind rule.ActionInput = OfFile (λ f. TakeInputs (length inputs) f.actions) kind
Meets inputs kind rule.ActionOutput = OfFile (λ f. AreOutputs (outputs_of f.actions)) kind
Meets inputs kind rule.NoMeta = OfExec (λ x. IsSome x.meta) kind
Meets inputs kind rule.NoArgs = OfExec (λ x. HasWord x.meta) kind
Meets inputs kind rule.NoMounts = OfExec (λ x. 0 < length x.mounts) kind
Meets inputs kind rule.NoRoot = OfExec (λ x. Contains (dests_of x.mounts) (Some [])) kind
Meets inputs kind rule.BadPath = OfExec (λ x. ReadsPaths x.mounts x.meta) kind
Meets inputs kind rule.SameDest = OfExec (λ x. AreApart (dests_of x.mounts)) kind
Meets inputs kind rule.MountKind = OfExec (λ x. All (λ m. IsBelow 5 m.mount_type) x.mounts) kind
Meets inputs kind rule.MountInput = OfExec (λ x. All (ShowsInput (length inputs)) x.mounts) kind
Meets inputs kind rule.MountOutput = OfExec (λ x. AreMountOutputs x.mounts) kind
Meets inputs kind rule.NoCacheOpt = OfExec (λ x. All HasOptions x.mounts) kind
Meets inputs kind rule.Sharing = OfExec (λ x. All IsShared x.mounts) kind
Meets inputs kind rule.CacheTwice = OfExec (λ x. AreApart (keys_of inputs x.mounts)) kind
Meets inputs kind (rule.Script f) = OfExec (λ x. IsSome (commands_in x.meta)) kind
Meets inputs kind rule.MergeInput = OfMerge (λ m. All (λ i. IsInput (length inputs) i.input) m.inputs) kind

-- an op of this kind with these inputs meets each of these rules
abbrev pub MeetsAll : List Input → Option Kind → List Rule → Type 0
MeetsAll inputs kind [] = ⊤
MeetsAll inputs kind (r ∷ rs) = Meets inputs kind r × MeetsAll inputs kind rs

-- `broken` is the first of these rules that the op does not meet
abbrev pub Breaks : List Input → Option Kind → List Rule → Rule → Type 0
Breaks inputs kind [] broken = ⊥
Breaks inputs kind (r ∷ rs) broken = ((broken ≡ r) × (¬ Meets inputs kind r)) ⊎ (Meets inputs kind r × Breaks inputs kind rs broken)

-- the fault of reading an exec's words as a script; if they are a script, or if the op is no exec, this is some fault, which is not used
abbrev pub kind_fault : Option Kind → ScriptFault
kind_fault (Some (Exec x)) = script_fault x.meta
kind_fault _ = script_fault None

-- the rules in the order in which they are checked; the argument of the rule `Script` is the fault of reading the exec's words as a script
abbrev pub rules_on : Option Kind → List Rule
rules_on kind =
    rule.NoKind ∷ rule.LocalName ∷ rule.NoActions ∷ rule.ActionInput ∷ rule.ActionOutput
    ∷ rule.NoMeta ∷ rule.NoArgs ∷ rule.NoMounts ∷ rule.NoRoot ∷ rule.BadPath ∷ rule.SameDest
    ∷ rule.MountKind ∷ rule.MountInput ∷ rule.MountOutput
    ∷ rule.NoCacheOpt ∷ rule.Sharing ∷ rule.CacheTwice ∷ rule.Script (kind_fault kind) ∷ rule.MergeInput ∷ []

-- an op meets every rule
abbrev pub MeetsRules : Op → Type 0
MeetsRules op = MeetsAll op.inputs op.kind (rules_on op.kind)

-- `broken` is the first rule that an op breaks
abbrev pub BreaksFirst : Op → Rule → Type 0
BreaksFirst op broken = Breaks op.inputs op.kind (rules_on op.kind) broken
