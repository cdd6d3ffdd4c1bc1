-- The unsupported features of ops, and the order in which they are looked for.
use Rattle.std.specs.Prelude.{◌==◌, Bool, true, false, not, ◌||◌, nat_eq, List, [], ◌∷◌, length, Option, Some, None, codes}
use Rattle.std.specs.List.{list_any, find, starts_with}
use Rattle.llb_ops.specs.declared.op.Op.{Op}
use Rattle.llb_ops.specs.declared.op.Kind.{Kind}
use Rattle.llb_ops.specs.declared.op.Kind.TheVariants.{Exec, Source, Build, Diff}
use Rattle.llb_ops.specs.declared.file_op.ActionKind.{ActionKind}
use Rattle.llb_ops.specs.declared.file_op.ActionKind.TheVariants.{Copy}
use Rattle.llb_ops.specs.declared.actions.CopyFile.{CopyFile}
use Rattle.llb_loader.specs.declared.fault.Feature.{Feature}
use Rattle.llb_loader.specs.declared.fault.Feature.TheVariants as feature
use Rattle.llb_loader.specs.Mounts.{secret, ssh, has_type}
use Rattle.llb_loader.specs.Rules.{kind_actions, kind_mounts, owner_of, owner_by_name}

-- whether an op is a diff
abbrev pub is_diff : Option Kind → Bool
is_diff (Some (Diff b)) = true
is_diff _ = false

-- whether an op is a build
abbrev pub is_build : Option Kind → Bool
is_build (Some (Build b)) = true
is_build _ = false

-- whether an op is a source that is not local
abbrev pub is_remote : Option Kind → Bool
is_remote (Some (Source s)) = not (starts_with nat_eq s.identifier (codes "local://"))
is_remote _ = false

-- whether an op is an exec with a secret in its environment
abbrev pub has_secret : Option Kind → Bool
has_secret (Some (Exec x)) = not (length x.secretenv == 0)
has_secret _ = false

-- whether an action is of no known kind: no member of its oneof is set
abbrev pub is_nameless : Option ActionKind → Bool
is_nameless None = true
is_nameless (Some k) = false

-- whether an action is a copy with this property
abbrev pub copies_with : (CopyFile → Bool) → Option ActionKind → Bool
copies_with p (Some (Copy c)) = p c
copies_with p _ = false

-- whether a copy has include patterns or exclude patterns
abbrev pub has_pattern : CopyFile → Bool
has_pattern c = not (length c.include_patterns == 0) || not (length c.exclude_patterns == 0)

-- whether a copy asks for archives to be unpacked
abbrev pub unpacks : CopyFile → Bool
unpacks c = c.attempt_unpack_docker_compatibility

-- whether a copy has a field that llb_ops does not know; such fields are kept in `extra`
abbrev pub has_field : CopyFile → Bool
has_field c = not (length c.extra == 0)

-- whether an op of this kind has the feature
abbrev pub has : Option Kind → Feature → Bool
has kind feature.DiffOp = is_diff kind
has kind feature.BuildOp = is_build kind
has kind feature.Source = is_remote kind
has kind feature.SecretMount = list_any (has_type secret) (kind_mounts kind)
has kind feature.SshMount = list_any (has_type ssh) (kind_mounts kind)
has kind feature.SecretEnv = has_secret kind
has kind feature.Action = list_any (λ a. is_nameless a.kind) (kind_actions kind)
has kind feature.Unpack = list_any (λ a. copies_with unpacks a.kind) (kind_actions kind)
has kind feature.Patterns = list_any (λ a. copies_with has_pattern a.kind) (kind_actions kind)
has kind feature.OwnerByName = list_any (λ a. owner_by_name (owner_of a.kind)) (kind_actions kind)
has kind feature.CopyField = list_any (λ a. copies_with has_field a.kind) (kind_actions kind)

-- the features that are not supported, in the order in which they are looked for
abbrev pub features : List Feature
features =
    feature.DiffOp ∷ feature.BuildOp ∷ feature.Source ∷ feature.SecretMount ∷ feature.SshMount ∷ feature.SecretEnv
    ∷ feature.Action ∷ feature.Unpack ∷ feature.Patterns ∷ feature.OwnerByName ∷ feature.CopyField ∷ []

-- the first unsupported feature of an op; none if it has none
abbrev pub feature_of : Op → Option Feature
feature_of op = find (has op.kind) features
