-- What it means that an op, or the entries of a definition, are within the limits on numbers of values and entries, and on lengths.
use Rattle.std.specs.Prelude.{ℕ, ◌≤◌, List, length, Option, Some, None}
use Rattle.std.specs.List.{All}
use Rattle.llb_ops.specs.declared.op.Op.{Op}
use Rattle.llb_ops.specs.declared.op.Kind.{Kind}
use Rattle.llb_ops.specs.declared.op.Kind.TheVariants.{Exec, Source, File, Build, Merge, Diff}
use Rattle.llb_ops.specs.declared.file_op.FileOp.{FileOp}
use Rattle.llb_ops.specs.declared.file_op.ActionKind.{ActionKind}
use Rattle.llb_ops.specs.declared.file_op.ActionKind.TheVariants as action
use Rattle.llb_ops.specs.declared.actions.CopyFile.{CopyFile}
use Rattle.llb_ops.specs.declared.exec.ExecOp.{ExecOp}
use Rattle.llb_ops.specs.declared.exec.Meta.{Meta}
use Rattle.llb_ops.specs.Limits.{field_limit, entries_limit, entry_limit}

-- a list has at most `field_limit` items, as many as a repeated field may have records
abbrev pub IsFew : {A : Type 0} → List A → Type 0
IsFew xs = length xs ≤ field_limit

-- a `Meta` is within the limits: it has at most `field_limit` arguments and at most as many variables, and no argument is longer than an entry may be
pub record IsMetaWithin (m : Meta) : Type 0 where
  pub args : IsFew m.args
  pub env : IsFew m.env
  pub short : All (λ a. length a ≤ entry_limit) m.args

-- if there is a `Meta`, it is within the limits
abbrev pub IsMetaOptWithin : Option Meta → Type 0
IsMetaOptWithin None = Unit {0}
IsMetaOptWithin (Some m) = IsMetaWithin m

-- an `ExecOp` is within the limits: it has at most `field_limit` mounts and at most as many secrets, and its `Meta`, if there is one, is within the limits
pub record IsExecWithin (m : ExecOp) : Type 0 where
  pub meta : IsMetaOptWithin m.meta
  pub mounts : IsFew m.mounts
  pub secretenv : IsFew m.secretenv

-- a copy has at most `field_limit` include patterns, and at most as many exclude patterns
pub record IsCopyWithin (m : CopyFile) : Type 0 where
  pub include_patterns : IsFew m.include_patterns
  pub exclude_patterns : IsFew m.exclude_patterns

-- what a file action does, if anything, is within the limits: only a copy has repeated fields, so no other action has limits
abbrev pub IsActionWithin : Option ActionKind → Type 0
IsActionWithin None = Unit {0}
IsActionWithin (Some (action.Copy m)) = IsCopyWithin m
IsActionWithin (Some (action.MkFile m)) = Unit {0}
IsActionWithin (Some (action.MkDir m)) = Unit {0}
IsActionWithin (Some (action.Rm m)) = Unit {0}

-- a `FileOp` has at most `field_limit` actions, and what each action does is within the limits (`IsActionWithin`)
pub record IsFileWithin (m : FileOp) : Type 0 where
  pub actions : IsFew m.actions
  pub each : All (λ a. IsActionWithin a.kind) m.actions

-- the kind of an op, if it has one, is within the limits; `build` and `diff` are bytes that are not read, so they have no limits
abbrev pub IsKindWithin : Option Kind → Type 0
IsKindWithin None = Unit {0}
IsKindWithin (Some (Exec m)) = IsExecWithin m
IsKindWithin (Some (Source m)) = IsFew m.attrs
IsKindWithin (Some (File m)) = IsFileWithin m
IsKindWithin (Some (Build bytes)) = Unit {0}
IsKindWithin (Some (Merge m)) = IsFew m.inputs
IsKindWithin (Some (Diff bytes)) = Unit {0}

-- an op has at most `field_limit` inputs, and its kind is within the limits (`IsKindWithin`)
pub record IsWithinLimits (op : Op) : Type 0 where
  pub inputs : IsFew op.inputs
  pub kind : IsKindWithin op.kind

-- there are at most `entries_limit` entries, and none of them has more than `entry_limit` bytes
pub record AreWithinLimits (entries : List (List ℕ)) : Type 0 where
  pub few : length entries ≤ entries_limit
  pub short : All (λ e. length e ≤ entry_limit) entries
