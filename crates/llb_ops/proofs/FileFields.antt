-- File ops and the inputs of ops have fields by the table: their fields, one after the other.
use Rattle.std.proofs.Common.{◌≡◌, ℕ, ℤ, ◌≤◌, Bool, true, false, List, Option, refl, Ok, arith}
use Rattle.std.specs.Prelude.{◌==◌}
use Rattle.llb_wire.specs.Records.{Record}
use Rattle.llb_ops.specs.declared.table.MessageName.TheVariants as name
use Rattle.llb_ops.specs.declared.op.Input.{Input}
use Rattle.llb_ops.specs.declared.file_op.FileOp.{FileOp}
use Rattle.llb_ops.specs.declared.file_op.Action.{Action}
use Rattle.llb_ops.specs.declared.file_op.ActionKind.{ActionKind}
use Rattle.llb_ops.specs.declared.file_op.ActionKind.TheVariants as action
use Rattle.llb_ops.specs.declared.actions.MkFile.{MkFile}
use Rattle.llb_ops.specs.declared.actions.MkDir.{MkDir}
use Rattle.llb_ops.specs.declared.actions.CopyFile.{CopyFile}
use Rattle.llb_ops.specs.declared.actions.Rm.{Rm}
use Rattle.llb_ops.specs.declared.owners.ChownOpt.{ChownOpt}
use Rattle.llb_ops.specs.declared.owners.UserOpt.{UserOpt}
use Rattle.llb_ops.specs.declared.owners.User.{User}
use Rattle.llb_ops.specs.declared.owners.User.TheVariants.{ByName, ById}
use Rattle.llb_ops.specs.Records.{int64, int32, uint32, flag, number, joined, message_of}
use Rattle.llb_ops.specs.Messages.{users, user_of, action_kinds, action_kind_of, input_of, input_in, user_opt_of, user_opt_in, chown_opt_of}
use Rattle.llb_ops.specs.Messages.{chown_opt_in, mk_file_of, mk_file_in, mk_dir_of, mk_dir_in, copy_file_of, copy_file_in, copy_file_with}
use Rattle.llb_ops.specs.Messages.{rm_of, rm_in, action_of, action_in, file_op_of, file_op_in}
use Rattle.llb_ops.specs.Writing.{bit, set_bytes, set_number, input_bytes, user_opt_bytes, chown_opt_bytes, mk_file_bytes, mk_dir_bytes}
use Rattle.llb_ops.specs.Writing.{copy_file_bytes, rm_bytes, action_bytes, file_op_bytes}
use Rattle.llb_ops.proofs.TextValidity.{empty_utf8}
use Rattle.llb_ops.proofs.NumberRoundTrip.{from_signed, int64_recodes, int32_recodes, flag_recodes}
use Rattle.llb_ops.proofs.MessageRoundTrips.{user_record, UserRead, user_cases, user_choice, action_record, ActionRead, action_from, action_choice}
use Rattle.llb_ops.proofs.MessageRoundTrips.{user_opt_returns, chown_opt_returns, action_returns, input_made, user_opt_made, chown_opt_made}
use Rattle.llb_ops.proofs.MessageRoundTrips.{mk_file_made, mk_dir_made, copy_file_made, rm_made, action_made, file_op_made}
use Rattle.llb_ops.proofs.LeadingTableFields.{tells_bytes, tells_number, tells_message}
use Rattle.llb_ops.proofs.TableFieldsOfKinds.{HasFrom, LeadsBy, next_is, is_repeated, Told, told_both, told_end, told_number, told_bytes, told_items}
use Rattle.llb_ops.proofs.TableFieldsOfKinds.{told_message}
use Rattle.llb_ops.proofs.TableFieldsOfKinds.{told_messages, tells_member, few_members, or_true, has_by, row_at, int64_is, int32_is, flag_is}

abbrev input_told : Told name.Input Input (List ℕ × (ℤ × Unit {0})) 0 false 2 false
input_told =
    told_both (told_bytes name.Input 0 false (row_at name.Input 1) (λ held h. h) (next_is refl refl) refl refl refl empty_utf8)
    (told_both (told_number name.Input 1 false (row_at name.Input 2) int64 from_signed int64_recodes int64_is (next_is refl refl) refl refl)
    (told_end name.Input 2 false) refl refl) refl refl

-- the canonical bytes of an input that was read are fields by the table, none of which occurs too often
pub input_has : HasFrom name.Input input_of input_bytes input_bytes
unfolding message_of input_in input_bytes
input_has = has_by input_told input_made input_of input_bytes input_bytes (λ entry. refl) (λ a more. refl) (λ a more. refl)

-- ---- users and groups

user_known : (a : User) → UserRead a → (k : ℕ) × (k ≤ 2) × LeadsBy name.UserOpt 0 false k true (user_record a) (user_record a)
unfolding set_bytes set_number
user_known (ByName held) h = (1, omega arith, tells_bytes name.UserOpt 0 false (row_at name.UserOpt 1) held (next_is refl refl) tt (or_true _ true refl) refl)
user_known (ById id) h =
    let same : uint32 id ≡ id = omega (arith, h) in
    (2, omega arith, tells_number name.UserOpt 0 false (row_at name.UserOpt 2) id (next_is refl refl) same (or_true _ true refl))

user_tells : (n : ℕ) (xs : List Record) (a : User) → user_of n xs ≡ Ok a
    → (k : ℕ) × (k ≤ 2) × LeadsBy name.UserOpt 0 false k true (user_record a) (user_record a)
user_tells n xs a e = user_known a (user_cases (n == 1) (joined xs) (number xs) a e)

abbrev user_opt_told : Told name.UserOpt UserOpt (Option User × Unit {0}) 0 false 2 true
user_opt_told =
    told_both (record {
      field = user_choice;
      lean = user_choice;
      tells = λ rs o good e. tells_member name.UserOpt 0 2 users user_of user_record user_record rs o (omega arith) good user_tells e;
      few = λ rs o good e w. few_members user_record o;
    })
    (told_end name.UserOpt 2 true) refl refl

pub user_opt_has : HasFrom name.UserOpt user_opt_of user_opt_bytes user_opt_bytes
unfolding message_of user_opt_in user_opt_bytes
user_opt_has = has_by user_opt_told user_opt_made user_opt_of user_opt_bytes user_opt_bytes (λ entry. refl) (λ a more. refl) (λ a more. refl)

abbrev chown_opt_told : Told name.ChownOpt ChownOpt (Option UserOpt × (Option UserOpt × Unit {0})) 0 false 2 false
chown_opt_told =
    told_both (told_message name.ChownOpt name.UserOpt 0 false (row_at name.ChownOpt 1) user_opt_of user_opt_bytes user_opt_returns user_opt_has
    (next_is refl refl) refl refl refl)
    (told_both (told_message name.ChownOpt name.UserOpt 1 false (row_at name.ChownOpt 2) user_opt_of user_opt_bytes user_opt_returns user_opt_has
    (next_is refl refl) refl refl refl)
    (told_end name.ChownOpt 2 false) refl refl) refl refl

pub chown_opt_has : HasFrom name.ChownOpt chown_opt_of chown_opt_bytes chown_opt_bytes
unfolding message_of chown_opt_in chown_opt_bytes
chown_opt_has = has_by chown_opt_told chown_opt_made chown_opt_of chown_opt_bytes chown_opt_bytes (λ entry. refl) (λ a more. refl) (λ a more. refl)

-- ---- file actions

abbrev mk_file_told : Told name.FileActionMkFile MkFile (List ℕ × (ℤ × (List ℕ × (Option ChownOpt × (ℤ × Unit {0}))))) 0 false 5 false
mk_file_told =
    told_both (told_bytes name.FileActionMkFile 0 false (row_at name.FileActionMkFile 1) (λ held h. h) (next_is refl refl) refl refl refl empty_utf8)
    (told_both (told_number name.FileActionMkFile 1 false (row_at name.FileActionMkFile 2) int32 from_signed int32_recodes int32_is
    (next_is refl refl) refl refl)
    (told_both (told_bytes name.FileActionMkFile 2 false (row_at name.FileActionMkFile 3) (λ held h. tt) (next_is refl refl) refl refl refl refl)
    (told_both (told_message name.FileActionMkFile name.ChownOpt 3 false (row_at name.FileActionMkFile 4) chown_opt_of chown_opt_bytes chown_opt_returns
    chown_opt_has (next_is refl refl) refl refl refl)
    (told_both (told_number name.FileActionMkFile 4 false (row_at name.FileActionMkFile 5) int64 from_signed int64_recodes int64_is
    (next_is refl refl) refl refl)
    (told_end name.FileActionMkFile 5 false) refl refl) refl refl) refl refl) refl refl) refl refl

pub mk_file_has : HasFrom name.FileActionMkFile mk_file_of mk_file_bytes mk_file_bytes
unfolding message_of mk_file_in mk_file_bytes
mk_file_has = has_by mk_file_told mk_file_made mk_file_of mk_file_bytes mk_file_bytes (λ entry. refl) (λ a more. refl) (λ a more. refl)

abbrev mk_dir_told : Told name.FileActionMkDir MkDir (List ℕ × (ℤ × (Bool × (Option ChownOpt × (ℤ × Unit {0}))))) 0 false 5 false
mk_dir_told =
    told_both (told_bytes name.FileActionMkDir 0 false (row_at name.FileActionMkDir 1) (λ held h. h) (next_is refl refl) refl refl refl empty_utf8)
    (told_both (told_number name.FileActionMkDir 1 false (row_at name.FileActionMkDir 2) int32 from_signed int32_recodes int32_is (next_is refl refl) refl refl)
    (told_both (told_number name.FileActionMkDir 2 false (row_at name.FileActionMkDir 3) flag bit flag_recodes flag_is (next_is refl refl) refl refl)
    (told_both (told_message name.FileActionMkDir name.ChownOpt 3 false (row_at name.FileActionMkDir 4) chown_opt_of chown_opt_bytes chown_opt_returns
    chown_opt_has (next_is refl refl) refl refl refl)
    (told_both (told_number name.FileActionMkDir 4 false (row_at name.FileActionMkDir 5) int64 from_signed int64_recodes int64_is (next_is refl refl) refl refl)
    (told_end name.FileActionMkDir 5 false) refl refl) refl refl) refl refl) refl refl) refl refl

pub mk_dir_has : HasFrom name.FileActionMkDir mk_dir_of mk_dir_bytes mk_dir_bytes
unfolding message_of mk_dir_in mk_dir_bytes
mk_dir_has = has_by mk_dir_told mk_dir_made mk_dir_of mk_dir_bytes mk_dir_bytes (λ entry. refl) (λ a more. refl) (λ a more. refl)

abbrev copy_file_told : Told name.FileActionCopy CopyFile
    (List ℕ × (List ℕ × (Option ChownOpt
    × (ℤ × (Bool × (Bool × (Bool × (Bool × (Bool × (Bool × (ℤ × (List (List ℕ) × (List (List ℕ) × Unit {0}))))))))))))) 0 false 13 false
copy_file_told =
    told_both (told_bytes name.FileActionCopy 0 false (row_at name.FileActionCopy 1) (λ held h. h) (next_is refl refl) refl refl refl empty_utf8)
    (told_both (told_bytes name.FileActionCopy 1 false (row_at name.FileActionCopy 2) (λ held h. h) (next_is refl refl) refl refl refl empty_utf8)
    (told_both (told_message name.FileActionCopy name.ChownOpt 2 false (row_at name.FileActionCopy 3) chown_opt_of chown_opt_bytes chown_opt_returns
    chown_opt_has (next_is refl refl) refl refl refl)
    (told_both (told_number name.FileActionCopy 3 false (row_at name.FileActionCopy 4) int32 from_signed int32_recodes int32_is (next_is refl refl) refl refl)
    (told_both (told_number name.FileActionCopy 4 false (row_at name.FileActionCopy 5) flag bit flag_recodes flag_is (next_is refl refl) refl refl)
    (told_both (told_number name.FileActionCopy 5 false (row_at name.FileActionCopy 6) flag bit flag_recodes flag_is (next_is refl refl) refl refl)
    (told_both (told_number name.FileActionCopy 6 false (row_at name.FileActionCopy 7) flag bit flag_recodes flag_is (next_is refl refl) refl refl)
    (told_both (told_number name.FileActionCopy 7 false (row_at name.FileActionCopy 8) flag bit flag_recodes flag_is (next_is refl refl) refl refl)
    (told_both (told_number name.FileActionCopy 8 false (row_at name.FileActionCopy 9) flag bit flag_recodes flag_is (next_is refl refl) refl refl)
    (told_both (told_number name.FileActionCopy 9 false (row_at name.FileActionCopy 10) flag bit flag_recodes flag_is (next_is refl refl) refl refl)
    (told_both (told_number name.FileActionCopy 10 false (row_at name.FileActionCopy 11) int64 from_signed int64_recodes int64_is (next_is refl refl) refl refl)
    (told_both (told_items name.FileActionCopy 11 false (row_at name.FileActionCopy 12) (λ held h. h)
    (is_repeated (next_is refl refl) (next_is refl refl) refl refl refl) refl refl)
    (told_both (told_items name.FileActionCopy 12 false (row_at name.FileActionCopy 13) (λ held h. h)
    (is_repeated (next_is refl refl) (next_is refl refl) refl refl refl) refl refl)
    (told_end name.FileActionCopy 13 false) refl refl) refl refl) refl refl) refl refl) refl refl) refl refl) refl refl) refl refl) refl refl) refl refl)
    refl refl) refl refl) refl refl

pub copy_file_has : HasFrom name.FileActionCopy copy_file_of copy_file_bytes copy_file_bytes
unfolding message_of copy_file_in copy_file_with copy_file_bytes
copy_file_has = has_by copy_file_told copy_file_made copy_file_of copy_file_bytes copy_file_bytes (λ entry. refl) (λ a more. refl) (λ a more. refl)

abbrev rm_told : Told name.FileActionRm Rm (List ℕ × (Bool × (Bool × Unit {0}))) 0 false 3 false
rm_told =
    told_both (told_bytes name.FileActionRm 0 false (row_at name.FileActionRm 1) (λ held h. h) (next_is refl refl) refl refl refl empty_utf8)
    (told_both (told_number name.FileActionRm 1 false (row_at name.FileActionRm 2) flag bit flag_recodes flag_is (next_is refl refl) refl refl)
    (told_both (told_number name.FileActionRm 2 false (row_at name.FileActionRm 3) flag bit flag_recodes flag_is (next_is refl refl) refl refl)
    (told_end name.FileActionRm 3 false) refl refl) refl refl) refl refl

pub rm_has : HasFrom name.FileActionRm rm_of rm_bytes rm_bytes
unfolding message_of rm_in rm_bytes
rm_has = has_by rm_told rm_made rm_of rm_bytes rm_bytes (λ entry. refl) (λ a more. refl) (λ a more. refl)

action_known : (a : ActionKind) → ActionRead a → (k : ℕ) × (k ≤ 7) × LeadsBy name.FileAction 3 false k true (action_record a) (action_record a)
unfolding set_bytes
action_known (action.Copy m) h = (
  4,
  omega arith,
  tells_message name.FileAction name.FileActionCopy 3 false (row_at name.FileAction 4) (copy_file_bytes m)
      (copy_file_bytes m) (next_is refl refl) refl (copy_file_has h.0 m h.1),
)
action_known (action.MkFile m) h = (
  5,
  omega arith,
  tells_message name.FileAction name.FileActionMkFile 3 false (row_at name.FileAction 5) (mk_file_bytes m)
      (mk_file_bytes m) (next_is refl refl) refl (mk_file_has h.0 m h.1),
)
action_known (action.MkDir m) h = (
  6,
  omega arith,
  tells_message name.FileAction name.FileActionMkDir 3 false (row_at name.FileAction 6) (mk_dir_bytes m)
      (mk_dir_bytes m) (next_is refl refl) refl (mk_dir_has h.0 m h.1),
)
action_known (action.Rm m) h = (
  7,
  omega arith,
  tells_message name.FileAction name.FileActionRm 3 false (row_at name.FileAction 7) (rm_bytes m) (rm_bytes m)
      (next_is refl refl) refl (rm_has h.0 m h.1),
)

abbrev action_told : Told name.FileAction Action (ℤ × (ℤ × (ℤ × (Option ActionKind × Unit {0})))) 0 false 7 true
action_told =
    told_both (told_number name.FileAction 0 false (row_at name.FileAction 1) int64 from_signed int64_recodes int64_is (next_is refl refl) refl refl)
    (told_both (told_number name.FileAction 1 false (row_at name.FileAction 2) int64 from_signed int64_recodes int64_is (next_is refl refl) refl refl)
    (told_both (told_number name.FileAction 2 false (row_at name.FileAction 3) int64 from_signed int64_recodes int64_is (next_is refl refl) refl refl)
    (told_both (record {
      field = action_choice;
      lean = action_choice;
      tells = λ rs o good e.
          tells_member name.FileAction 3 7 action_kinds action_kind_of action_record action_record rs o (omega arith) good
          (λ n xs a h. action_known a (action_from n xs a h)) e;
      few = λ rs o good e w. few_members action_record o;
    })
    (told_end name.FileAction 7 true) refl refl) refl refl) refl refl) refl refl

pub action_has : HasFrom name.FileAction action_of action_bytes action_bytes
unfolding message_of action_in action_bytes
action_has = has_by action_told action_made action_of action_bytes action_bytes (λ entry. refl) (λ a more. refl) (λ a more. refl)

abbrev file_op_told : Told name.FileOp FileOp (List Action × Unit {0}) 0 false 2 false
file_op_told =
    told_both (told_messages name.FileOp name.FileAction 0 false (row_at name.FileOp 2) action_of action_bytes action_returns action_has
    (is_repeated (next_is refl refl) (next_is refl refl) refl refl refl) refl refl refl)
    (told_end name.FileOp 2 false) refl refl

-- the canonical bytes of a file op that was read are fields by the table, none of which occurs too often
pub file_op_has : HasFrom name.FileOp file_op_of file_op_bytes file_op_bytes
unfolding message_of file_op_in file_op_bytes
file_op_has = has_by file_op_told file_op_made file_op_of file_op_bytes file_op_bytes (λ entry. refl) (λ a more. refl) (λ a more. refl)
