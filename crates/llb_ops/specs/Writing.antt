-- The canonical bytes of each message: its named fields in ascending order of their numbers, each in its shortest spelling; then its extra
-- bytes. A field that is 0 or empty is left out, unless it is a message that is there, the set member of a oneof, an item of a repeated field,
-- or the key or the value of a map's entry.
use Rattle.std.specs.Prelude.{ℕ, ℤ, List, [], ◌++◌, length, map, Option, Some, None, Bool, true, false, ◌==◌, if◌then◌else◌}
use Rattle.std.specs.List.{flat_map}
use Rattle.std.specs.Int.{w64, cast_unsigned}
use Rattle.llb_wire.specs.declared.field.Wire.TheVariants as wire
use Rattle.llb_wire.specs.Spelling.{record_text}
use Rattle.llb_ops.specs.declared.op.Op.{Op}
use Rattle.llb_ops.specs.declared.op.Kind.{Kind}
use Rattle.llb_ops.specs.declared.op.Kind.TheVariants.{Exec, Source, File, Build, Merge, Diff}
use Rattle.llb_ops.specs.declared.op.Input.{Input}
use Rattle.llb_ops.specs.declared.file_op.FileOp.{FileOp}
use Rattle.llb_ops.specs.declared.file_op.Action.{Action}
use Rattle.llb_ops.specs.declared.file_op.ActionKind.{ActionKind}
use Rattle.llb_ops.specs.declared.file_op.ActionKind.TheVariants as action
use Rattle.llb_ops.specs.declared.actions.MkFile.{MkFile}
use Rattle.llb_ops.specs.declared.actions.MkDir.{MkDir}
use Rattle.llb_ops.specs.declared.actions.CopyFile.{CopyFile}
use Rattle.llb_ops.specs.declared.actions.Rm.{Rm}
use Rattle.llb_ops.specs.declared.owners.ChownOpt.{ChownOpt}
use Rattle.llb_ops.specs.declared.owners.UserOpt.{UserOpt}
use Rattle.llb_ops.specs.declared.owners.User.{User}
use Rattle.llb_ops.specs.declared.owners.User.TheVariants.{ByName, ById}
use Rattle.llb_ops.specs.declared.exec.ExecOp.{ExecOp}
use Rattle.llb_ops.specs.declared.exec.Meta.{Meta}
use Rattle.llb_ops.specs.declared.exec.Mount.{Mount}
use Rattle.llb_ops.specs.declared.exec.TmpfsOpt.{TmpfsOpt}
use Rattle.llb_ops.specs.declared.exec.CacheOpt.{CacheOpt}
use Rattle.llb_ops.specs.declared.merge.MergeOp.{MergeOp}
use Rattle.llb_ops.specs.declared.merge.MergeInput.{MergeInput}
use Rattle.llb_ops.specs.declared.source.SourceOp.{SourceOp}
use Rattle.llb_ops.specs.declared.source.AttributeEntry.{AttributeEntry}
use Rattle.llb_ops.specs.Attributes.{entry_of}

-- the record of field n with the number v, even if v is 0
unfoldable pub set_number : ℕ → ℕ → List ℕ
set_number n v = record_text n wire.Varint v []

-- the record of field n with these bytes, even if there are none
unfoldable pub set_bytes : ℕ → List ℕ → List ℕ
set_bytes n bytes = record_text n wire.Len 0 bytes

-- the record of field n with the number v, left out if v is 0
unfoldable pub number_field : ℕ → ℕ → List ℕ
number_field n v = if v == 0 then [] else set_number n v

-- the record of field n with these bytes, left out if there are none
unfoldable pub bytes_field : ℕ → List ℕ → List ℕ
bytes_field n bytes = if length bytes == 0 then [] else set_bytes n bytes

-- the record of an int64, int32 or enum field, left out if the number is 0; a negative number is in two's complement of 64 bits
abbrev pub signed_field : ℕ → ℤ → List ℕ
signed_field n z = number_field n (cast_unsigned w64 z)

-- a Bool as a number: 1 for true, 0 for false
abbrev pub bit : Bool → ℕ
bit true = 1
bit false = 0

-- the record of a Bool field, left out if it is false
abbrev pub flag_field : ℕ → Bool → List ℕ
flag_field n b = number_field n (bit b)

-- the record of a singular message, which is written even if the message is empty; nothing if there is no message
unfoldable pub message_field : {A : Type 0} → (A → List ℕ) → ℕ → Option A → List ℕ
message_field write n None = []
message_field write n (Some m) = set_bytes n (write m)

-- a record for each message of a repeated field, even for an empty message
unfoldable pub messages_field : {A : Type 0} → (A → List ℕ) → ℕ → List A → List ℕ
messages_field write n ms = flat_map (λ m. set_bytes n (write m)) ms

-- a record for each item of a repeated string or bytes field, even for an empty item
unfoldable pub each_field : ℕ → List (List ℕ) → List ℕ
each_field n items = flat_map (λ bytes. set_bytes n bytes) items

-- the bytes that `write` makes of the set member of a oneof; no bytes if no member is set
abbrev pub one_of_field : {A : Type 0} → (A → List ℕ) → Option A → List ℕ
one_of_field write None = []
one_of_field write (Some m) = write m

-- the canonical bytes of an `Input`: the digest is written unless it is empty, the index unless it is 0
unfoldable pub input_bytes : Input → List ℕ
input_bytes m = bytes_field 1 m.digest ++ signed_field 2 m.index ++ m.extra

-- the canonical record of a user: field 1 with the bytes of `byName`, or field 2 with the user's number
unfoldable pub user_bytes : User → List ℕ
user_bytes (ByName name) = set_bytes 1 name
user_bytes (ById id) = set_number 2 id

-- the canonical bytes of a `UserOpt`: the member of its oneof that is set is written, even if it is empty or 0
unfoldable pub user_opt_bytes : UserOpt → List ℕ
user_opt_bytes m = one_of_field user_bytes m.user ++ m.extra

-- the canonical bytes of a `ChownOpt`: the user and the group are written, each if there is one
unfoldable pub chown_opt_bytes : ChownOpt → List ℕ
chown_opt_bytes m = message_field user_opt_bytes 1 m.user ++ message_field user_opt_bytes 2 m.group ++ m.extra

-- the canonical bytes of a `FileActionMkFile`: `body` is written as field 3, `data`; the owner is written if there is one
unfoldable pub mk_file_bytes : MkFile → List ℕ
mk_file_bytes m = bytes_field 1 m.path ++ signed_field 2 m.mode ++ bytes_field 3 m.body
    ++ message_field chown_opt_bytes 4 m.owner ++ signed_field 5 m.timestamp ++ m.extra

-- the canonical bytes of a `FileActionMkDir`: `make_parents` is written only if it is true, the owner if there is one
unfoldable pub mk_dir_bytes : MkDir → List ℕ
mk_dir_bytes m = bytes_field 1 m.path ++ signed_field 2 m.mode ++ flag_field 3 m.make_parents
    ++ message_field chown_opt_bytes 4 m.owner ++ signed_field 5 m.timestamp ++ m.extra

-- the canonical bytes of a `FileActionCopy`: flags are written only if they are true, the owner if there is one, and every pattern, also an empty one
unfoldable pub copy_file_bytes : CopyFile → List ℕ
copy_file_bytes m = bytes_field 1 m.src ++ bytes_field 2 m.dest ++ message_field chown_opt_bytes 3 m.owner ++ signed_field 4 m.mode
    ++ flag_field 5 m.follow_symlink ++ flag_field 6 m.dir_copy_contents ++ flag_field 7 m.attempt_unpack_docker_compatibility
    ++ flag_field 8 m.create_dest_path
    ++ flag_field 9 m.allow_wildcard ++ flag_field 10 m.allow_empty_wildcard ++ signed_field 11 m.timestamp ++ each_field 12 m.include_patterns
    ++ each_field 13 m.exclude_patterns ++ m.extra

-- the canonical bytes of a `FileActionRm`: the path is written unless it is empty, flags only if they are true
unfoldable pub rm_bytes : Rm → List ℕ
rm_bytes m = bytes_field 1 m.path ++ flag_field 2 m.allow_not_found ++ flag_field 3 m.allow_wildcard ++ m.extra

-- the canonical record of what an action does: the field of the action's kind, whose payload is the canonical bytes of the kind's message
unfoldable pub action_kind_bytes : ActionKind → List ℕ
action_kind_bytes (action.Copy m) = set_bytes 4 (copy_file_bytes m)
action_kind_bytes (action.MkFile m) = set_bytes 5 (mk_file_bytes m)
action_kind_bytes (action.MkDir m) = set_bytes 6 (mk_dir_bytes m)
action_kind_bytes (action.Rm m) = set_bytes 7 (rm_bytes m)

-- the canonical bytes of a `FileAction`: inputs and output are written unless they are 0, and the member of its oneof if one is set
unfoldable pub action_bytes : Action → List ℕ
action_bytes m = signed_field 1 m.input ++ signed_field 2 m.secondary_input ++ signed_field 3 m.output
    ++ one_of_field action_kind_bytes m.kind ++ m.extra

-- the canonical bytes of a `FileOp`: a record of field 2 for each action, in order
unfoldable pub file_op_bytes : FileOp → List ℕ
file_op_bytes m = messages_field action_bytes 2 m.actions ++ m.extra

-- the canonical bytes of a `Meta`: every argument and variable is written, also an empty one, and the directory and the user unless they are empty
unfoldable pub meta_bytes : Meta → List ℕ
meta_bytes m = each_field 1 m.args ++ each_field 2 m.env ++ bytes_field 3 m.cwd ++ bytes_field 4 m.user
    ++ m.extra

-- the canonical bytes of a `TmpfsOpt`: the size is written unless it is 0
unfoldable pub tmpfs_opt_bytes : TmpfsOpt → List ℕ
tmpfs_opt_bytes m = signed_field 1 m.size ++ m.extra

-- the canonical bytes of a `CacheOpt`: the ID is written unless it is empty, the sharing unless it is 0
unfoldable pub cache_opt_bytes : CacheOpt → List ℕ
cache_opt_bytes m = bytes_field 1 m.id ++ signed_field 2 m.sharing ++ m.extra

-- the canonical bytes of a `Mount`: fields 1 to 6 are written unless they are 0, empty or false; the `TmpfsOpt` and the `CacheOpt` if there is one
unfoldable pub mount_bytes : Mount → List ℕ
mount_bytes m = signed_field 1 m.input ++ bytes_field 2 m.selector ++ bytes_field 3 m.dest ++ signed_field 4 m.output
    ++ flag_field 5 m.readonly ++ signed_field 6 m.mount_type ++ message_field tmpfs_opt_bytes 19 m.tmpfs_opt ++ message_field cache_opt_bytes 20 m.cache_opt
    ++ m.extra

-- the canonical bytes of an `ExecOp`: its `Meta` is written if there is one, network and security unless they are 0, and every mount and secret
unfoldable pub exec_op_bytes : ExecOp → List ℕ
exec_op_bytes m = message_field meta_bytes 1 m.meta ++ messages_field mount_bytes 2 m.mounts ++ signed_field 3 m.network ++ signed_field 4 m.security
    ++ each_field 5 m.secretenv ++ m.extra

-- the canonical bytes of a `MergeInput`: the number of the input is written unless it is 0
unfoldable pub merge_input_bytes : MergeInput → List ℕ
merge_input_bytes m = signed_field 1 m.input ++ m.extra

-- the canonical bytes of a `MergeOp`: a record for each of its inputs, in order, even for input 0
unfoldable pub merge_op_bytes : MergeOp → List ℕ
merge_op_bytes m = messages_field merge_input_bytes 1 m.inputs ++ m.extra

-- the canonical bytes of an entry of a map: key and value are written even if they are empty
unfoldable pub attribute_entry_bytes : AttributeEntry → List ℕ
attribute_entry_bytes m = set_bytes 1 m.key ++ set_bytes 2 m.value ++ m.extra

-- the canonical bytes of a `SourceOp`: the identifier is written unless it is empty, and an entry of the map for each attribute in order
unfoldable pub source_op_bytes : SourceOp → List ℕ
source_op_bytes m = bytes_field 1 m.identifier ++ messages_field attribute_entry_bytes 2 (map entry_of m.attrs) ++ m.extra

-- the canonical record of an op's kind: the field of the kind, with the canonical bytes of its message, or the bytes of a build or a diff
unfoldable pub kind_bytes : Kind → List ℕ
kind_bytes (Exec m) = set_bytes 2 (exec_op_bytes m)
kind_bytes (Source m) = set_bytes 3 (source_op_bytes m)
kind_bytes (File m) = set_bytes 4 (file_op_bytes m)
kind_bytes (Build bytes) = set_bytes 5 bytes
kind_bytes (Merge m) = set_bytes 6 (merge_op_bytes m)
kind_bytes (Diff bytes) = set_bytes 7 bytes

-- the canonical bytes of an op: its inputs in order, its kind if it has one, and its extra bytes
unfoldable pub op_bytes : Op → List ℕ
op_bytes m = messages_field input_bytes 1 m.inputs ++ one_of_field kind_bytes m.kind ++ m.extra
