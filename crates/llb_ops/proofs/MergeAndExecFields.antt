-- Merges and executions have fields by the table: their fields, one after the other.
use Rattle.std.proofs.Common.{ℕ, ℤ, Bool, false, List, Option, refl, ap, Result, Ok}
use Rattle.llb_ops.specs.declared.table.MessageName.TheVariants as name
use Rattle.llb_ops.specs.declared.exec.ExecOp.{ExecOp}
use Rattle.llb_ops.specs.declared.exec.Meta.{Meta}
use Rattle.llb_ops.specs.declared.exec.Mount.{Mount}
use Rattle.llb_ops.specs.declared.exec.TmpfsOpt.{TmpfsOpt}
use Rattle.llb_ops.specs.declared.exec.CacheOpt.{CacheOpt}
use Rattle.llb_ops.specs.declared.merge.MergeOp.{MergeOp}
use Rattle.llb_ops.specs.declared.merge.MergeInput.{MergeInput}
use Rattle.llb_ops.specs.Records.{int64, int32, flag, message_of}
use Rattle.llb_ops.specs.Messages.{merge_input_of, merge_input_in, merge_op_of, merge_op_in, tmpfs_opt_of, tmpfs_opt_in, cache_opt_of}
use Rattle.llb_ops.specs.Messages.{cache_opt_in, mount_of, mount_in, meta_of, meta_in, exec_op_of, exec_op_in}
use Rattle.llb_ops.specs.Writing.{bit, merge_input_bytes, merge_op_bytes, tmpfs_opt_bytes, cache_opt_bytes, mount_bytes, meta_bytes, exec_op_bytes}
use Rattle.llb_ops.proofs.TextValidity.{empty_utf8}
use Rattle.llb_ops.proofs.NumberRoundTrip.{from_signed, int64_recodes, int32_recodes, flag_recodes}
use Rattle.llb_ops.proofs.MergeRoundTrip.{merge_input_returns, merge_input_made, merge_op_made}
use Rattle.llb_ops.proofs.ExecRoundTrip.{tmpfs_opt_returns, cache_opt_returns, mount_returns, meta_returns, tmpfs_opt_made, cache_opt_made}
use Rattle.llb_ops.proofs.ExecRoundTrip.{mount_made, meta_made, exec_op_made}
use Rattle.llb_ops.proofs.TableFieldsOfKinds.{HasFrom, next_is, is_repeated, Told, told_both, told_end, told_number, told_bytes, told_items, told_message}
use Rattle.llb_ops.proofs.TableFieldsOfKinds.{told_messages, has_by, row_at, int64_is, int32_is, flag_is}

abbrev merge_input_told : Told name.MergeInput MergeInput (ℤ × Unit {0}) 0 false 1 false
merge_input_told =
    told_both (told_number name.MergeInput 0 false (row_at name.MergeInput 1) int64 from_signed int64_recodes int64_is (next_is refl refl) refl refl)
    (told_end name.MergeInput 1 false) refl refl

pub merge_input_has : HasFrom name.MergeInput merge_input_of merge_input_bytes merge_input_bytes
unfolding message_of merge_input_in merge_input_bytes
merge_input_has = has_by merge_input_told merge_input_made merge_input_of merge_input_bytes merge_input_bytes (λ entry. refl) (λ a more. refl) (λ a more. refl)

abbrev merge_op_told : Told name.MergeOp MergeOp (List MergeInput × Unit {0}) 0 false 1 false
merge_op_told =
    told_both (told_messages name.MergeOp name.MergeInput 0 false (row_at name.MergeOp 1) merge_input_of merge_input_bytes merge_input_returns merge_input_has
    (is_repeated (next_is refl refl) (next_is refl refl) refl refl refl) refl refl refl)
    (told_end name.MergeOp 1 false) refl refl

-- the canonical bytes of a merge that was read are fields by the table, none of which occurs too often
pub merge_op_has : HasFrom name.MergeOp merge_op_of merge_op_bytes merge_op_bytes
unfolding message_of merge_op_in merge_op_bytes
merge_op_has = has_by merge_op_told merge_op_made merge_op_of merge_op_bytes merge_op_bytes (λ entry. refl) (λ a more. refl) (λ a more. refl)

abbrev tmpfs_opt_told : Told name.TmpfsOpt TmpfsOpt (ℤ × Unit {0}) 0 false 1 false
tmpfs_opt_told =
    told_both (told_number name.TmpfsOpt 0 false (row_at name.TmpfsOpt 1) int64 from_signed int64_recodes int64_is (next_is refl refl) refl refl)
    (told_end name.TmpfsOpt 1 false) refl refl

pub tmpfs_opt_has : HasFrom name.TmpfsOpt tmpfs_opt_of tmpfs_opt_bytes tmpfs_opt_bytes
unfolding message_of tmpfs_opt_in tmpfs_opt_bytes
tmpfs_opt_has = has_by tmpfs_opt_told tmpfs_opt_made tmpfs_opt_of tmpfs_opt_bytes tmpfs_opt_bytes (λ entry. refl) (λ a more. refl) (λ a more. refl)

abbrev cache_opt_told : Told name.CacheOpt CacheOpt (List ℕ × (ℤ × Unit {0})) 0 false 2 false
cache_opt_told =
    told_both (told_bytes name.CacheOpt 0 false (row_at name.CacheOpt 1) (λ held h. h) (next_is refl refl) refl refl refl empty_utf8)
    (told_both (told_number name.CacheOpt 1 false (row_at name.CacheOpt 2) int32 from_signed int32_recodes int32_is (next_is refl refl) refl refl)
    (told_end name.CacheOpt 2 false) refl refl) refl refl

pub cache_opt_has : HasFrom name.CacheOpt cache_opt_of cache_opt_bytes cache_opt_bytes
unfolding message_of cache_opt_in cache_opt_bytes
cache_opt_has = has_by cache_opt_told cache_opt_made cache_opt_of cache_opt_bytes cache_opt_bytes (λ entry. refl) (λ a more. refl) (λ a more. refl)

abbrev mount_told : Told name.Mount Mount (ℤ × (List ℕ × (List ℕ × (ℤ × (Bool × (ℤ × (Option TmpfsOpt × (Option CacheOpt × Unit {0})))))))) 0 false 20 false
mount_told =
    told_both (told_number name.Mount 0 false (row_at name.Mount 1) int64 from_signed int64_recodes int64_is (next_is refl refl) refl refl)
    (told_both (told_bytes name.Mount 1 false (row_at name.Mount 2) (λ held h. h) (next_is refl refl) refl refl refl empty_utf8)
    (told_both (told_bytes name.Mount 2 false (row_at name.Mount 3) (λ held h. h) (next_is refl refl) refl refl refl empty_utf8)
    (told_both (told_number name.Mount 3 false (row_at name.Mount 4) int64 from_signed int64_recodes int64_is (next_is refl refl) refl refl)
    (told_both (told_number name.Mount 4 false (row_at name.Mount 5) flag bit flag_recodes flag_is (next_is refl refl) refl refl)
    (told_both (told_number name.Mount 5 false (row_at name.Mount 6) int32 from_signed int32_recodes int32_is (next_is refl refl) refl refl)
    (told_both (told_message name.Mount name.TmpfsOpt 6 false (row_at name.Mount 19) tmpfs_opt_of tmpfs_opt_bytes tmpfs_opt_returns tmpfs_opt_has
    (next_is refl refl) refl refl refl)
    (told_both (told_message name.Mount name.CacheOpt 19 false (row_at name.Mount 20) cache_opt_of cache_opt_bytes cache_opt_returns cache_opt_has
    (next_is refl refl) refl refl refl)
    (told_end name.Mount 20 false) refl refl) refl refl) refl refl) refl refl) refl refl) refl refl) refl refl) refl refl

pub mount_has : HasFrom name.Mount mount_of mount_bytes mount_bytes
unfolding message_of mount_in mount_bytes
mount_has = has_by mount_told mount_made mount_of mount_bytes mount_bytes (λ entry. refl) (λ a more. refl) (λ a more. refl)

abbrev meta_told : Told name.Meta Meta (List (List ℕ) × (List (List ℕ) × (List ℕ × (List ℕ × Unit {0})))) 0 false 4 false
meta_told =
    told_both (told_items name.Meta 0 false (row_at name.Meta 1) (λ held h. h)
    (is_repeated (next_is refl refl) (next_is refl refl) refl refl refl) refl refl)
    (told_both (told_items name.Meta 1 false (row_at name.Meta 2) (λ held h. h)
    (is_repeated (next_is refl refl) (next_is refl refl) refl refl refl) refl refl)
    (told_both (told_bytes name.Meta 2 false (row_at name.Meta 3) (λ held h. h) (next_is refl refl) refl refl refl empty_utf8)
    (told_both (told_bytes name.Meta 3 false (row_at name.Meta 4) (λ held h. h) (next_is refl refl) refl refl refl empty_utf8)
    (told_end name.Meta 4 false) refl refl) refl refl) refl refl) refl refl

pub meta_has : HasFrom name.Meta meta_of meta_bytes meta_bytes
unfolding message_of meta_in meta_bytes
meta_has = has_by meta_told meta_made meta_of meta_bytes meta_bytes (λ entry. refl) (λ a more. refl) (λ a more. refl)

abbrev exec_op_told : Told name.ExecOp ExecOp (Option Meta × (List Mount × (ℤ × (ℤ × (List (List ℕ) × Unit {0}))))) 0 false 5 false
exec_op_told =
    told_both (told_message name.ExecOp name.Meta 0 false (row_at name.ExecOp 1) meta_of meta_bytes meta_returns meta_has (next_is refl refl) refl refl refl)
    (told_both (told_messages name.ExecOp name.Mount 1 false (row_at name.ExecOp 2) mount_of mount_bytes mount_returns mount_has
    (is_repeated (next_is refl refl) (next_is refl refl) refl refl refl) refl refl refl)
    (told_both (told_number name.ExecOp 2 false (row_at name.ExecOp 3) int32 from_signed int32_recodes int32_is (next_is refl refl) refl refl)
    (told_both (told_number name.ExecOp 3 false (row_at name.ExecOp 4) int32 from_signed int32_recodes int32_is (next_is refl refl) refl refl)
    (told_both (told_items name.ExecOp 4 false (row_at name.ExecOp 5) (λ held h. tt)
    (is_repeated (next_is refl refl) (next_is refl refl) refl refl refl) refl refl)
    (told_end name.ExecOp 5 false) refl refl) refl refl) refl refl) refl refl) refl refl

-- the canonical bytes of an execution that was read are fields by the table, none of which occurs too often
pub exec_op_has : HasFrom name.ExecOp exec_op_of exec_op_bytes exec_op_bytes
unfolding message_of exec_op_in exec_op_bytes
exec_op_has = has_by exec_op_told exec_op_made exec_op_of exec_op_bytes exec_op_bytes (λ entry. refl) (λ a more. refl) (λ a more. refl)
