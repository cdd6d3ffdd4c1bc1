-- The rules, kind by kind: for each kind the rules that an op of this kind can break, in groups that are checked one after another.
use Rattle.std.specs.Prelude.{List, [], ◌∷◌, ◌++◌, Option, MatchOption}
use Rattle.llb_ops.specs.declared.op.Input.{Input}
use Rattle.llb_ops.specs.declared.op.Kind.{Kind}
use Rattle.llb_ops.specs.declared.exec.Meta.{Meta}
use Rattle.llb_loader.specs.declared.fault.Rule.{Rule}
use Rattle.llb_loader.specs.declared.fault.Rule.TheVariants as rule
use Rattle.llb_loader.specs.Scripts.{script_fault}
use Rattle.llb_loader.specs.Rules.{MeetsAll, Breaks}

-- `broken` is the first of these rules that an op of this kind with these inputs breaks; none if the op meets all of them
abbrev pub IsFirstBroken : List Input → Option Kind → List Rule → Option Rule → Type 0
IsFirstBroken inputs kind rs broken = MatchOption broken (MeetsAll inputs kind rs) (Breaks inputs kind rs)

-- the rules of a source
abbrev pub source_rules : List Rule
source_rules = rule.LocalName ∷ []

-- the rules of a file op
abbrev pub file_rules : List Rule
file_rules = rule.NoActions ∷ rule.ActionInput ∷ rule.ActionOutput ∷ []

-- the rules that an exec has a `Meta`, at least one word in `args`, and at least one mount
abbrev pub word_rules : List Rule
word_rules = rule.NoMeta ∷ rule.NoArgs ∷ rule.NoMounts ∷ []

-- the rules on the paths of an exec: a mount is at `/`, all paths can be read, and no two mounts are at the same path
abbrev pub path_rules : List Rule
path_rules = rule.NoRoot ∷ rule.BadPath ∷ rule.SameDest ∷ []

-- the rules on the types, the inputs and the outputs of an exec's mounts
abbrev pub mount_rules : List Rule
mount_rules = rule.MountKind ∷ rule.MountInput ∷ rule.MountOutput ∷ []

-- the rules on the cache mounts of an exec
abbrev pub cache_rules : List Rule
cache_rules = rule.NoCacheOpt ∷ rule.Sharing ∷ rule.CacheTwice ∷ []

-- the rule that the words of an exec are a script; this rule has the fault of these words as its argument
abbrev pub script_rules : Option Meta → List Rule
script_rules meta = rule.Script (script_fault meta) ∷ []

-- the rules of an exec, in the order in which they are checked
abbrev pub exec_rules : Option Meta → List Rule
exec_rules meta = word_rules ++ (path_rules ++ (mount_rules ++ (cache_rules ++ script_rules meta)))

-- the rules of a merge
abbrev pub merge_rules : List Rule
merge_rules = rule.MergeInput ∷ []
