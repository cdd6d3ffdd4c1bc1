-- How each message is made from its records, by its fields in the table (`ops.proto` of BuildKit). The order of the steps is the
-- order of the faults: first the faults of the records, then the faults of nested messages by their field numbers, then `OverLimit`.
use Rattle.std.specs.Prelude.{ℕ, List, [], ◌∷◌, length, Option, Result, Ok, Err, nat_lt, ◌==◌, if◌then◌else◌}
use Rattle.llb_wire.specs.CallResults.{◌>>=◌}
use Rattle.llb_wire.specs.Records.{Record}
use Rattle.llb_ops.specs.declared.fault.OpFault.{OpFault}
use Rattle.llb_ops.specs.declared.fault.OpFault.TheVariants.{OverLimit}
use Rattle.llb_ops.specs.declared.table.MessageName.TheVariants as message
use Rattle.llb_ops.specs.declared.op.Op.{Op}
use Rattle.llb_ops.specs.declared.op.Kind.{Kind}
use Rattle.llb_ops.specs.declared.op.Kind.TheVariants.{Exec, Source, File, Build, Merge, Diff}
use Rattle.llb_ops.specs.declared.op.Input.{Input}
use Rattle.llb_ops.specs.declared.file_op.FileOp.{FileOp}
use Rattle.llb_ops.specs.declared.file_op.Action.{Action}
use Rattle.llb_ops.specs.declared.file_op.ActionKind.{ActionKind}
use Rattle.llb_ops.specs.declared.file_op.ActionKind.TheVariants as action
use Rattle.llb_ops.specs.declared.actions.MkFile.{MkFile}
use Rattle.llb_ops.specs.declared.actions.MkDir.{MkDir}
use Rattle.llb_ops.specs.declared.actions.CopyFile.{CopyFile}
use Rattle.llb_ops.specs.declared.actions.Rm.{Rm}
use Rattle.llb_ops.specs.declared.owners.ChownOpt.{ChownOpt}
use Rattle.llb_ops.specs.declared.owners.UserOpt.{UserOpt}
use Rattle.llb_ops.specs.declared.owners.User.{User}
use Rattle.llb_ops.specs.declared.owners.User.TheVariants.{ByName, ById}
use Rattle.llb_ops.specs.declared.exec.ExecOp.{ExecOp}
use Rattle.llb_ops.specs.declared.exec.Meta.{Meta}
use Rattle.llb_ops.specs.declared.exec.Mount.{Mount}
use Rattle.llb_ops.specs.declared.exec.TmpfsOpt.{TmpfsOpt}
use Rattle.llb_ops.specs.declared.exec.CacheOpt.{CacheOpt}
use Rattle.llb_ops.specs.declared.merge.MergeOp.{MergeOp}
use Rattle.llb_ops.specs.declared.merge.MergeInput.{MergeInput}
use Rattle.llb_ops.specs.declared.source.SourceOp.{SourceOp}
use Rattle.llb_ops.specs.declared.source.AttributeEntry.{AttributeEntry}
use Rattle.llb_ops.specs.Table.{shape_of, members_of, repeated_of}
use Rattle.llb_ops.specs.Limits.{entry_limit}
use Rattle.llb_ops.specs.Attributes.{settled}
use Rattle.llb_ops.specs.Records.{Shape, message_of, all, payload, payloads, number, flag, uint32, int32, int64, joined, one, each, one_of}
use Rattle.llb_ops.specs.Records.{within_limits, unnamed}

-- the shape (the fields in the table) of an `Input` message: `digest` (1) and `index` (2)
abbrev pub input_shape : Shape
input_shape = shape_of message.Input

-- an `Input` of an op, from the records of the `Input`
unfoldable pub input_in : List Record → Result Input OpFault
input_in rs = Ok (record { digest = payload (all 1 rs); index = int64 (number (all 2 rs)); extra = unnamed input_shape rs })

-- the `Input` that bytes are read as, or the first fault of their records
abbrev pub input_of : List ℕ → Result Input OpFault
input_of = message_of input_shape input_in

-- the shape (the fields in the table) of a `UserOpt` message: `byName` (1) and `byID` (2), the members of its oneof
abbrev pub user_opt_shape : Shape
user_opt_shape = shape_of message.UserOpt

-- the field numbers of the members of the oneof of a `UserOpt`; the member that is set is the user
abbrev pub users : List ℕ
users = members_of message.UserOpt

-- the user that is read from the records of field n, the member of the oneof that is set
abbrev pub user_of : ℕ → List Record → Result User OpFault
user_of n rs = if n == 1 then Ok (ByName (joined rs)) else Ok (ById (uint32 (number rs)))

-- a `UserOpt` from its records; its user is the member of its oneof that is set, or absent if no member is set
unfoldable pub user_opt_in : List Record → Result UserOpt OpFault
user_opt_in rs = do
  user ← one_of users user_of rs
  Ok (record { user = user; extra = unnamed user_opt_shape rs })

-- the `UserOpt` that bytes are read as, or the first fault of its records
abbrev pub user_opt_of : List ℕ → Result UserOpt OpFault
user_opt_of = message_of user_opt_shape user_opt_in

-- the shape (the fields in the table) of a `ChownOpt` message: `user` (1) and `group` (2)
abbrev pub chown_opt_shape : Shape
chown_opt_shape = shape_of message.ChownOpt

-- a `ChownOpt` from its records: a user if field 1 has a record, and a group if field 2 has one
unfoldable pub chown_opt_in : List Record → Result ChownOpt OpFault
chown_opt_in rs = do
  user ← one user_opt_of (all 1 rs)
  group ← one user_opt_of (all 2 rs)
  Ok (record { user = user; group = group; extra = unnamed chown_opt_shape rs })

-- the `ChownOpt` that bytes are read as, or the first fault: of its records, then of the user, then of the group
abbrev pub chown_opt_of : List ℕ → Result ChownOpt OpFault
chown_opt_of = message_of chown_opt_shape chown_opt_in

-- the shape (the fields in the table) of a `FileActionMkFile` message: `path`, `mode`, `data`, `owner` and `timestamp` (1 to 5)
abbrev pub mk_file_shape : Shape
mk_file_shape = shape_of message.FileActionMkFile

-- a `FileActionMkFile` from its records; `body` is the field `data`, and the owner is absent if the field `owner` has no record
unfoldable pub mk_file_in : List Record → Result MkFile OpFault
mk_file_in rs = do
  owner ← one chown_opt_of (all 4 rs)
  Ok (record {
    path = payload (all 1 rs);
    mode = int32 (number (all 2 rs));
    body = payload (all 3 rs);
    owner = owner;
    timestamp = int64 (number (all 5 rs));
    extra = unnamed mk_file_shape rs;
  })

-- the `FileActionMkFile` that bytes are read as, or the first fault: of its records, then of the owner
abbrev pub mk_file_of : List ℕ → Result MkFile OpFault
mk_file_of = message_of mk_file_shape mk_file_in

-- the shape (the fields in the table) of a `FileActionMkDir` message: `path`, `mode`, `makeParents`, `owner` and `timestamp` (1 to 5)
abbrev pub mk_dir_shape : Shape
mk_dir_shape = shape_of message.FileActionMkDir

-- a `FileActionMkDir` from its records; the owner is absent if the field `owner` has no record
unfoldable pub mk_dir_in : List Record → Result MkDir OpFault
mk_dir_in rs = do
  owner ← one chown_opt_of (all 4 rs)
  Ok (record {
    path = payload (all 1 rs);
    mode = int32 (number (all 2 rs));
    make_parents = flag (number (all 3 rs));
    owner = owner;
    timestamp = int64 (number (all 5 rs));
    extra = unnamed mk_dir_shape rs;
  })

-- the `FileActionMkDir` that bytes are read as, or the first fault: of its records, then of the owner
abbrev pub mk_dir_of : List ℕ → Result MkDir OpFault
mk_dir_of = message_of mk_dir_shape mk_dir_in

-- the shape (the fields in the table) of a `FileActionCopy` message: thirteen fields, `src` (1) to `exclude_patterns` (13)
abbrev pub copy_file_shape : Shape
copy_file_shape = shape_of message.FileActionCopy

-- a `FileActionCopy` from its records and its owner, which was read before
unfoldable pub copy_file_with : List Record → Option ChownOpt → CopyFile
copy_file_with rs owner = record {
  src = payload (all 1 rs);
  dest = payload (all 2 rs);
  owner = owner;
  mode = int32 (number (all 4 rs));
  follow_symlink = flag (number (all 5 rs));
  dir_copy_contents = flag (number (all 6 rs));
  attempt_unpack_docker_compatibility = flag (number (all 7 rs));
  create_dest_path = flag (number (all 8 rs));
  allow_wildcard = flag (number (all 9 rs));
  allow_empty_wildcard = flag (number (all 10 rs));
  timestamp = int64 (number (all 11 rs));
  include_patterns = payloads (all 12 rs);
  exclude_patterns = payloads (all 13 rs);
  extra = unnamed copy_file_shape rs;
}

-- a `FileActionCopy` from its records, if there are at most `field_limit` include patterns and at most as many exclude patterns; else `OverLimit`
unfoldable pub copy_file_in : List Record → Result CopyFile OpFault
copy_file_in rs = do
  owner ← one chown_opt_of (all 3 rs)
  if within_limits (repeated_of message.FileActionCopy) rs then Ok (copy_file_with rs owner) else Err OverLimit

-- the `FileActionCopy` that bytes are read as, or the first fault: of its records, then of the owner, then `OverLimit` for too many patterns
abbrev pub copy_file_of : List ℕ → Result CopyFile OpFault
copy_file_of = message_of copy_file_shape copy_file_in

-- the shape (the fields in the table) of a `FileActionRm` message: `path`, `allowNotFound` and `allowWildcard` (1 to 3)
abbrev pub rm_shape : Shape
rm_shape = shape_of message.FileActionRm

-- a `FileActionRm` from its records: the path, empty if absent, and two flags, false if absent
unfoldable pub rm_in : List Record → Result Rm OpFault
rm_in rs = Ok (record {
  path = payload (all 1 rs);
  allow_not_found = flag (number (all 2 rs));
  allow_wildcard = flag (number (all 3 rs));
  extra = unnamed rm_shape rs;
})

-- the `FileActionRm` that bytes are read as, or the first fault of its records
abbrev pub rm_of : List ℕ → Result Rm OpFault
rm_of = message_of rm_shape rm_in

-- the shape (the fields in the table) of a `FileAction` message: `input`, `secondaryInput` and `output` (1 to 3), and the members of its oneof (4 to 7)
abbrev pub action_shape : Shape
action_shape = shape_of message.FileAction

-- the field numbers of the members of the oneof of a `FileAction`; the member that is set says what the action does
abbrev pub action_kinds : List ℕ
action_kinds = members_of message.FileAction

-- what an action does, read from the records of field n, the member of the oneof that is set
abbrev pub action_kind_of : ℕ → List Record → Result ActionKind OpFault
action_kind_of n rs =
    if n == 4 then (copy_file_of (joined rs) >>= λ m. Ok (action.Copy m))
    else if n == 5 then (mk_file_of (joined rs) >>= λ m. Ok (action.MkFile m))
    else if n == 6 then (mk_dir_of (joined rs) >>= λ m. Ok (action.MkDir m))
    else (rm_of (joined rs) >>= λ m. Ok (action.Rm m))

-- a `FileAction` from its records: its inputs and its output, each 0 if absent, and what it does, if a member of its oneof is set
unfoldable pub action_in : List Record → Result Action OpFault
action_in rs = do
  kind ← one_of action_kinds action_kind_of rs
  Ok (record {
    input = int64 (number (all 1 rs));
    secondary_input = int64 (number (all 2 rs));
    output = int64 (number (all 3 rs));
    kind = kind;
    extra = unnamed action_shape rs;
  })

-- the `FileAction` that bytes are read as, or the first fault: of its records, then of the member of its oneof that is set
abbrev pub action_of : List ℕ → Result Action OpFault
action_of = message_of action_shape action_in

-- the shape (the fields in the table) of a `FileOp` message: `actions` (2)
abbrev pub file_op_shape : Shape
file_op_shape = shape_of message.FileOp

-- a `FileOp` from its records: its actions in order, if there are at most `field_limit` of them; else `OverLimit`
unfoldable pub file_op_in : List Record → Result FileOp OpFault
file_op_in rs = do
  actions ← each action_of (all 2 rs)
  if within_limits (repeated_of message.FileOp) rs then Ok (record { actions = actions; extra = unnamed file_op_shape rs }) else Err OverLimit

-- the `FileOp` that bytes are read as, or the first fault: of its records, then of its actions in order, then `OverLimit` for too many actions
abbrev pub file_op_of : List ℕ → Result FileOp OpFault
file_op_of = message_of file_op_shape file_op_in

-- the shape (the fields in the table) of a `Meta` message: `args`, `env`, `cwd` and `user` (1 to 4)
abbrev pub meta_shape : Shape
meta_shape = shape_of message.Meta

-- a `Meta` from its records, if there are at most `field_limit` arguments and at most as many variables of the environment; else `OverLimit`
unfoldable pub meta_in : List Record → Result Meta OpFault
meta_in rs = if within_limits (repeated_of message.Meta) rs then Ok (record {
  args = payloads (all 1 rs);
  env = payloads (all 2 rs);
  cwd = payload (all 3 rs);
  user = payload (all 4 rs);
  extra = unnamed meta_shape rs;
}) else Err OverLimit

-- the `Meta` that bytes are read as, or the first fault: of its records, then `OverLimit` for too many arguments or variables
abbrev pub meta_of : List ℕ → Result Meta OpFault
meta_of = message_of meta_shape meta_in

-- the shape (the fields in the table) of a `TmpfsOpt` message: `size` (1)
abbrev pub tmpfs_opt_shape : Shape
tmpfs_opt_shape = shape_of message.TmpfsOpt

-- a `TmpfsOpt` from its records: the size, 0 if absent
unfoldable pub tmpfs_opt_in : List Record → Result TmpfsOpt OpFault
tmpfs_opt_in rs = Ok (record {
  size = int64 (number (all 1 rs));
  extra = unnamed tmpfs_opt_shape rs;
})

-- the `TmpfsOpt` that bytes are read as, or the first fault of its records
abbrev pub tmpfs_opt_of : List ℕ → Result TmpfsOpt OpFault
tmpfs_opt_of = message_of tmpfs_opt_shape tmpfs_opt_in

-- the shape (the fields in the table) of a `CacheOpt` message: `ID` (1) and `sharing` (2)
abbrev pub cache_opt_shape : Shape
cache_opt_shape = shape_of message.CacheOpt

-- a `CacheOpt` from its records: the ID, empty if absent, and the sharing as the enum's number, 0 if absent
unfoldable pub cache_opt_in : List Record → Result CacheOpt OpFault
cache_opt_in rs = Ok (record {
  id = payload (all 1 rs);
  sharing = int32 (number (all 2 rs));
  extra = unnamed cache_opt_shape rs;
})

-- the `CacheOpt` that bytes are read as, or the first fault of its records
abbrev pub cache_opt_of : List ℕ → Result CacheOpt OpFault
cache_opt_of = message_of cache_opt_shape cache_opt_in

-- the shape (the fields in the table) of a `Mount` message: `input` (1) to `mountType` (6), `TmpfsOpt` (19) and `cacheOpt` (20)
abbrev pub mount_shape : Shape
mount_shape = shape_of message.Mount

-- a `Mount` from its records; `tmpfs_opt` is absent if field 19 has no record, and `cache_opt` if field 20 has none
unfoldable pub mount_in : List Record → Result Mount OpFault
mount_in rs = do
  tmpfs_opt ← one tmpfs_opt_of (all 19 rs)
  cache_opt ← one cache_opt_of (all 20 rs)
  Ok (record {
    input = int64 (number (all 1 rs));
    selector = payload (all 2 rs);
    dest = payload (all 3 rs);
    output = int64 (number (all 4 rs));
    readonly = flag (number (all 5 rs));
    mount_type = int32 (number (all 6 rs));
    tmpfs_opt = tmpfs_opt;
    cache_opt = cache_opt;
    extra = unnamed mount_shape rs;
  })

-- the `Mount` that bytes are read as, or the first fault: of its records, then of the `TmpfsOpt`, then of the `CacheOpt`
abbrev pub mount_of : List ℕ → Result Mount OpFault
mount_of = message_of mount_shape mount_in

-- the shape (the fields in the table) of an `ExecOp` message: `meta`, `mounts`, `network`, `security` and `secretenv` (1 to 5)
abbrev pub exec_op_shape : Shape
exec_op_shape = shape_of message.ExecOp

-- an `ExecOp` from its records, if there are at most `field_limit` mounts and at most as many secrets, else `OverLimit`; secrets are not looked into
unfoldable pub exec_op_in : List Record → Result ExecOp OpFault
exec_op_in rs = do
  meta ← one meta_of (all 1 rs)
  mounts ← each mount_of (all 2 rs)
  if within_limits (repeated_of message.ExecOp) rs then Ok (record {
    meta = meta;
    mounts = mounts;
    network = int32 (number (all 3 rs));
    security = int32 (number (all 4 rs));
    secretenv = payloads (all 5 rs);
    extra = unnamed exec_op_shape rs;
  }) else Err OverLimit

-- the `ExecOp` that bytes are read as, or the first fault: of its records, then of its `Meta`, then of a mount, then `OverLimit` (too many mounts or secrets)
abbrev pub exec_op_of : List ℕ → Result ExecOp OpFault
exec_op_of = message_of exec_op_shape exec_op_in

-- the shape (the fields in the table) of a `MergeInput` message: `input` (1)
abbrev pub merge_input_shape : Shape
merge_input_shape = shape_of message.MergeInput

-- a `MergeInput` from its records: the number of an input of the op, which is signed, and 0 if absent
unfoldable pub merge_input_in : List Record → Result MergeInput OpFault
merge_input_in rs = Ok (record {
  input = int64 (number (all 1 rs));
  extra = unnamed merge_input_shape rs;
})

-- the `MergeInput` that bytes are read as, or the first fault of its records
abbrev pub merge_input_of : List ℕ → Result MergeInput OpFault
merge_input_of = message_of merge_input_shape merge_input_in

-- the shape (the fields in the table) of a `MergeOp` message: `inputs` (1)
abbrev pub merge_op_shape : Shape
merge_op_shape = shape_of message.MergeOp

-- a `MergeOp` from its records: its inputs in order, if there are at most `field_limit` of them; else `OverLimit`
unfoldable pub merge_op_in : List Record → Result MergeOp OpFault
merge_op_in rs = do
  inputs ← each merge_input_of (all 1 rs)
  if within_limits (repeated_of message.MergeOp) rs then Ok (record {
    inputs = inputs;
    extra = unnamed merge_op_shape rs;
  }) else Err OverLimit

-- the `MergeOp` that bytes are read as, or the first fault: of its records, then of its inputs in order, then `OverLimit` for too many inputs
abbrev pub merge_op_of : List ℕ → Result MergeOp OpFault
merge_op_of = message_of merge_op_shape merge_op_in

-- the shape (the fields in the table) of an entry of the map `attrs`: `key` (1) and `value` (2) (the encoding guide, "Maps")
abbrev pub attribute_entry_shape : Shape
attribute_entry_shape = shape_of message.AttributeEntry

-- an entry of the map `attrs` from its records: its key and its value, each empty if absent
unfoldable pub attribute_entry_in : List Record → Result AttributeEntry OpFault
attribute_entry_in rs = Ok (record { key = payload (all 1 rs); value = payload (all 2 rs); extra = unnamed attribute_entry_shape rs })

-- the entry of the map `attrs` that bytes are read as, or the first fault of its records
abbrev pub attribute_entry_of : List ℕ → Result AttributeEntry OpFault
attribute_entry_of = message_of attribute_entry_shape attribute_entry_in

-- the shape (the fields in the table) of a `SourceOp` message: `identifier` (1) and `attrs` (2)
abbrev pub source_op_shape : Shape
source_op_shape = shape_of message.SourceOp

-- a `SourceOp` from its records; or the first fault: of an entry of its map, then `OverLimit` for more than `field_limit` entries, counting repeated keys too
unfoldable pub source_op_in : List Record → Result SourceOp OpFault
source_op_in rs = do
  entries ← each attribute_entry_of (all 2 rs)
  if within_limits (repeated_of message.SourceOp) rs then Ok (record {
    identifier = payload (all 1 rs);
    attrs = settled entries;
    extra = unnamed source_op_shape rs;
  }) else Err OverLimit

-- the `SourceOp` that bytes are read as, or the first fault: of its records, then of its map's entries in order, then `OverLimit` for too many entries
abbrev pub source_op_of : List ℕ → Result SourceOp OpFault
source_op_of = message_of source_op_shape source_op_in

-- the shape (the fields in the table) of an `Op` message: `inputs` (1), and the members of its oneof (2 to 7)
abbrev pub op_shape : Shape
op_shape = shape_of message.Op

-- the field numbers of the members of the oneof of an `Op`; the member that is set is the op's kind
abbrev pub kinds : List ℕ
kinds = members_of message.Op

-- the kind of an op, read from the records of field n, the member of the oneof that is set
unfoldable pub kind_of : ℕ → List Record → Result Kind OpFault
kind_of n rs =
    if n == 2 then (exec_op_of (joined rs) >>= λ m. Ok (Exec m))
    else if n == 3 then (source_op_of (joined rs) >>= λ m. Ok (Source m))
    else if n == 4 then (file_op_of (joined rs) >>= λ m. Ok (File m))
    else if n == 5 then Ok (Build (joined rs))
    else if n == 6 then (merge_op_of (joined rs) >>= λ m. Ok (Merge m))
    else Ok (Diff (joined rs))

-- an op from its records: its inputs in order, and its kind if a member of its oneof is set; `OverLimit` if there are more than `field_limit` inputs
unfoldable pub op_in : List Record → Result Op OpFault
op_in rs = do
  inputs ← each input_of (all 1 rs)
  kind ← one_of kinds kind_of rs
  if within_limits (repeated_of message.Op) rs then Ok (record { inputs = inputs; kind = kind; extra = unnamed op_shape rs }) else Err OverLimit

-- the op that bytes are read as, or the first fault; the number of bytes has no limit here
abbrev pub op_message_of : List ℕ → Result Op OpFault
op_message_of = message_of op_shape op_in

-- the op that an entry's bytes are read as, or the first fault, which is `OverLimit` if there are more than `entry_limit` bytes
unfoldable pub op_of : List ℕ → Result Op OpFault
op_of bytes = if nat_lt entry_limit (length bytes) then Err OverLimit else op_message_of bytes
