-- An execution that was read is read again of its canonical bytes.
use Rattle.std.proofs.Common.{ℕ, ℤ, Bool, List, Option, refl}
use Rattle.llb_ops.specs.declared.exec.ExecOp.{ExecOp}
use Rattle.llb_ops.specs.declared.exec.Meta.{Meta}
use Rattle.llb_ops.specs.declared.exec.Mount.{Mount}
use Rattle.llb_ops.specs.declared.exec.TmpfsOpt.{TmpfsOpt}
use Rattle.llb_ops.specs.declared.exec.CacheOpt.{CacheOpt}
use Rattle.llb_ops.specs.Records.{int64, int32, flag, message_of}
use Rattle.llb_ops.specs.Messages.{meta_shape, meta_of, tmpfs_opt_shape, tmpfs_opt_of, cache_opt_shape, cache_opt_of, mount_shape, mount_of}
use Rattle.llb_ops.specs.Messages.{exec_op_shape, exec_op_of, cache_opt_in, exec_op_in, meta_in, mount_in, tmpfs_opt_in}
use Rattle.llb_ops.specs.Writing.{bit, meta_bytes, tmpfs_opt_bytes, cache_opt_bytes, mount_bytes, exec_op_bytes}
use Rattle.llb_ops.proofs.TextValidity.{empty_utf8}
use Rattle.llb_ops.proofs.NumberRoundTrip.{from_signed, int64_recodes, int32_recodes, flag_recodes}
use Rattle.llb_ops.proofs.FieldRoundTrip.{FieldOf, Returns, end, both, returns_by}
use Rattle.llb_ops.proofs.FieldKindRoundTrips.{numeric, string, strings, message, messages}

abbrev meta_fields : FieldOf meta_shape Meta (List (List ℕ) × (List (List ℕ) × (List ℕ × (List ℕ × Unit {0}))))
meta_fields =
    both (strings 1 refl refl)
    (both (strings 2 refl refl)
    (both (string 3 refl refl empty_utf8)
    (both (string 4 refl refl empty_utf8) end refl) refl) refl) refl

abbrev pub meta_made : List (List ℕ) × (List (List ℕ) × (List ℕ × (List ℕ × Unit {0}))) → List ℕ → Meta
meta_made a extra = record { args = a.0; env = a.1.0; cwd = a.1.1.0; user = a.1.1.1.0; extra = extra }

-- the arguments, variables, directory and user of a run that were read are read again of their canonical bytes
pub meta_returns : Returns meta_of meta_bytes
unfolding message_of meta_in meta_bytes
meta_returns = returns_by meta_fields meta_made meta_of meta_bytes refl (λ bytes. refl) (λ a extra. refl)

abbrev tmpfs_opt_fields : FieldOf tmpfs_opt_shape TmpfsOpt (ℤ × Unit {0})
tmpfs_opt_fields =
    both (numeric 1 int64 from_signed int64_recodes refl refl) end refl

abbrev pub tmpfs_opt_made : ℤ × Unit {0} → List ℕ → TmpfsOpt
tmpfs_opt_made a extra = record { size = a.0; extra = extra }

-- the options of a tmpfs mount that were read are read again of their canonical bytes
pub tmpfs_opt_returns : Returns tmpfs_opt_of tmpfs_opt_bytes
unfolding message_of tmpfs_opt_in tmpfs_opt_bytes
tmpfs_opt_returns = returns_by tmpfs_opt_fields tmpfs_opt_made tmpfs_opt_of tmpfs_opt_bytes refl (λ bytes. refl) (λ a extra. refl)

abbrev cache_opt_fields : FieldOf cache_opt_shape CacheOpt (List ℕ × (ℤ × Unit {0}))
cache_opt_fields =
    both (string 1 refl refl empty_utf8)
    (both (numeric 2 int32 from_signed int32_recodes refl refl) end refl) refl

abbrev pub cache_opt_made : List ℕ × (ℤ × Unit {0}) → List ℕ → CacheOpt
cache_opt_made a extra = record { id = a.0; sharing = a.1.0; extra = extra }

-- the options of a cache mount that were read are read again of their canonical bytes
pub cache_opt_returns : Returns cache_opt_of cache_opt_bytes
unfolding message_of cache_opt_in cache_opt_bytes
cache_opt_returns = returns_by cache_opt_fields cache_opt_made cache_opt_of cache_opt_bytes refl (λ bytes. refl) (λ a extra. refl)

abbrev mount_fields : FieldOf mount_shape Mount (ℤ × (List ℕ × (List ℕ × (ℤ × (Bool × (ℤ × (Option TmpfsOpt × (Option CacheOpt × Unit {0}))))))))
mount_fields =
    both (numeric 1 int64 from_signed int64_recodes refl refl)
    (both (string 2 refl refl empty_utf8)
    (both (string 3 refl refl empty_utf8)
    (both (numeric 4 int64 from_signed int64_recodes refl refl)
    (both (numeric 5 flag bit flag_recodes refl refl)
    (both (numeric 6 int32 from_signed int32_recodes refl refl)
    (both (message 19 tmpfs_opt_of tmpfs_opt_bytes tmpfs_opt_returns refl refl)
    (both (message 20 cache_opt_of cache_opt_bytes cache_opt_returns refl refl) end refl) refl) refl) refl) refl) refl) refl) refl

abbrev pub mount_made : ℤ × (List ℕ × (List ℕ × (ℤ × (Bool × (ℤ × (Option TmpfsOpt × (Option CacheOpt × Unit {0}))))))) → List ℕ → Mount
mount_made a extra = record {
  input = a.0;
  selector = a.1.0;
  dest = a.1.1.0;
  output = a.1.1.1.0;
  readonly = a.1.1.1.1.0;
  mount_type = a.1.1.1.1.1.0;
  tmpfs_opt = a.1.1.1.1.1.1.0;
  cache_opt = a.1.1.1.1.1.1.1.0;
  extra = extra;
}

-- a mount that was read is read again of its canonical bytes, and so are the options in it
pub mount_returns : Returns mount_of mount_bytes
unfolding message_of mount_in mount_bytes
mount_returns = returns_by mount_fields mount_made mount_of mount_bytes refl (λ bytes. refl) (λ a extra. refl)

abbrev exec_op_fields : FieldOf exec_op_shape ExecOp (Option Meta × (List Mount × (ℤ × (ℤ × (List (List ℕ) × Unit {0})))))
exec_op_fields =
    both (message 1 meta_of meta_bytes meta_returns refl refl)
    (both (messages 2 mount_of mount_bytes mount_returns refl refl)
    (both (numeric 3 int32 from_signed int32_recodes refl refl)
    (both (numeric 4 int32 from_signed int32_recodes refl refl)
    (both (strings 5 refl refl) end refl) refl) refl) refl) refl

abbrev pub exec_op_made : Option Meta × (List Mount × (ℤ × (ℤ × (List (List ℕ) × Unit {0})))) → List ℕ → ExecOp
exec_op_made a extra = record { meta = a.0; mounts = a.1.0; network = a.1.1.0; security = a.1.1.1.0; secretenv = a.1.1.1.1.0; extra = extra }

-- an execution that was read is read again of its canonical bytes
pub exec_op_returns : Returns exec_op_of exec_op_bytes
unfolding message_of exec_op_in exec_op_bytes
exec_op_returns = returns_by exec_op_fields exec_op_made exec_op_of exec_op_bytes refl (λ bytes. refl) (λ a extra. refl)
