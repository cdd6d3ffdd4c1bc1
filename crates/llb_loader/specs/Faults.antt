-- The results of the loader's calls, the loader's faults that report a fault of llb_ops, and the text of a fault.
use Rattle.std.specs.Prelude.{ℕ, Bool, true, false, List, ◌++◌, Result, codes}
use Rattle.std.specs.Fmt.{decimal}
use Rattle.llb_wire.specs.CallResults as answer
use Rattle.llb_ops.specs.declared.fault.OpFault.{OpFault}
use Rattle.llb_ops.specs.declared.fault.OpFault.TheVariants as op
use Rattle.llb_applet.specs.CallResults.{script_text}
use Rattle.llb_ops.specs.Faults.{op_text}
use Rattle.llb_loader.specs.declared.fault.Feature.{Feature}
use Rattle.llb_loader.specs.declared.fault.Feature.TheVariants as feature
use Rattle.llb_loader.specs.declared.fault.Rule.{Rule}
use Rattle.llb_loader.specs.declared.fault.Rule.TheVariants as rule
use Rattle.llb_loader.specs.declared.fault.LoadFault.{LoadFault}
use Rattle.llb_loader.specs.declared.fault.LoadFault.TheVariants as fault

-- whether a fault is `Memory`, with which a call fails if memory is refused; the definitions that say what is refused never name this fault
abbrev pub is_memory : LoadFault → Bool
is_memory fault.Memory = true
is_memory _ = false

-- a call returns or fails as its rule says, or fails with `Memory`; the argument of type `X → Y` turns the call's value into the value that the rule returns
abbrev pub Gives : {X Y : Type 0} → (X → Y) → Result X LoadFault → Result Y LoadFault → Type 0
Gives = answer.Gives is_memory

-- the loader's fault that reports this fault of llb_ops: bytes can't be read as a definition, or memory is refused
abbrev pub definition_fault : OpFault → LoadFault
definition_fault op.Memory = fault.Memory
definition_fault f = fault.Definition f

-- the loader's fault that reports this fault of llb_ops: row k can't be read as an op, or memory is refused
abbrev pub row_fault : ℕ → OpFault → LoadFault
row_fault k op.Memory = fault.Memory
row_fault k f = fault.Entry k f

-- ---- the text of a fault: its number and its arguments; a feature or a rule is written as its name

-- the name of a feature
abbrev pub feature_text : Feature → List ℕ
feature_text feature.DiffOp = codes "DiffOp"
feature_text feature.BuildOp = codes "BuildOp"
feature_text feature.Source = codes "Source"
feature_text feature.SecretMount = codes "SecretMount"
feature_text feature.SshMount = codes "SshMount"
feature_text feature.SecretEnv = codes "SecretEnv"
feature_text feature.Action = codes "Action"
feature_text feature.Unpack = codes "Unpack"
feature_text feature.Patterns = codes "Patterns"
feature_text feature.OwnerByName = codes "OwnerByName"
feature_text feature.CopyField = codes "CopyField"

-- the name of a rule
abbrev pub rule_name : Rule → List ℕ
rule_name rule.NoKind = codes "NoKind"
rule_name rule.LocalName = codes "LocalName"
rule_name rule.NoActions = codes "NoActions"
rule_name rule.ActionInput = codes "ActionInput"
rule_name rule.ActionOutput = codes "ActionOutput"
rule_name rule.NoMeta = codes "NoMeta"
rule_name rule.NoArgs = codes "NoArgs"
rule_name rule.NoMounts = codes "NoMounts"
rule_name rule.NoRoot = codes "NoRoot"
rule_name rule.BadPath = codes "BadPath"
rule_name rule.SameDest = codes "SameDest"
rule_name rule.MountKind = codes "MountKind"
rule_name rule.MountInput = codes "MountInput"
rule_name rule.MountOutput = codes "MountOutput"
rule_name rule.NoCacheOpt = codes "NoCacheOpt"
rule_name rule.Sharing = codes "Sharing"
rule_name rule.CacheTwice = codes "CacheTwice"
rule_name (rule.Script f) = codes "Script"
rule_name rule.MergeInput = codes "MergeInput"

-- the text of a rule: its name; after the name `Script`, the text of the script's fault follows
abbrev pub rule_text : Rule → List ℕ
rule_text (rule.Script f) = codes "Script " ++ script_text f
rule_text r = rule_name r

-- the text of a fault: its number and its arguments
abbrev pub load_text : LoadFault → List ℕ
load_text (fault.Definition f) = codes "81 " ++ op_text f
load_text (fault.Entry row f) = codes "82 " ++ (decimal row ++ (codes " " ++ op_text f))
load_text fault.TooFew = codes "83"
load_text (fault.Collision row) = codes "84 " ++ decimal row
load_text fault.NoResult = codes "85"
load_text (fault.UnknownDigest row input) = codes "86 " ++ (decimal row ++ (codes " " ++ decimal input))
load_text fault.Cycle = codes "87"
load_text (fault.Unsupported row x) = codes "88 " ++ (decimal row ++ (codes " " ++ feature_text x))
load_text (fault.Invalid row r) = codes "89 " ++ (decimal row ++ (codes " " ++ rule_text r))
load_text (fault.BadIndex row input) = codes "90 " ++ (decimal row ++ (codes " " ++ decimal input))
load_text fault.Memory = codes "91"
