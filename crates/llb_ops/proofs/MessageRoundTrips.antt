-- Each message that was read is read again of its canonical bytes: its fields, one after the other.
use Rattle.std.proofs.Common.{◌≡◌, ℕ, ℤ, ◌<◌, ◌^◌, Bool, true, false, cond, ltb, List, [], ◌∷◌, length, Option, Some, refl, ap, subst, Result, Ok, Err, arith}
use Rattle.std.specs.Bool.{◌==◌}
use Rattle.std.proofs.lemmas.Bool.{le-ltb}
use Rattle.std.proofs.lemmas.List.{append-nil}
use Rattle.llb_wire.specs.CallResults.{◌>>=◌}
use Rattle.llb_wire.proofs.RuleComposition.{bind_ok}
use Rattle.llb_wire.specs.Records.{Record}
use Rattle.llb_ops.specs.declared.fault.OpFault.{OpFault}
use Rattle.llb_ops.specs.declared.fault.OpFault.TheVariants.{OverLimit}
use Rattle.llb_ops.specs.declared.op.Op.{Op}
use Rattle.llb_ops.specs.declared.op.Kind.{Kind}
use Rattle.llb_ops.specs.declared.op.Kind.TheVariants.{Exec, Source, File, Build, Merge, Diff}
use Rattle.llb_ops.specs.declared.op.Input.{Input}
use Rattle.llb_ops.specs.declared.file_op.FileOp.{FileOp}
use Rattle.llb_ops.specs.declared.file_op.Action.{Action}
use Rattle.llb_ops.specs.declared.file_op.ActionKind.{ActionKind}
use Rattle.llb_ops.specs.declared.file_op.ActionKind.TheVariants as action
use Rattle.llb_ops.specs.declared.actions.MkFile.{MkFile}
use Rattle.llb_ops.specs.declared.actions.MkDir.{MkDir}
use Rattle.llb_ops.specs.declared.actions.CopyFile.{CopyFile}
use Rattle.llb_ops.specs.declared.actions.Rm.{Rm}
use Rattle.llb_ops.specs.declared.owners.ChownOpt.{ChownOpt}
use Rattle.llb_ops.specs.declared.owners.UserOpt.{UserOpt}
use Rattle.llb_ops.specs.declared.owners.User.{User}
use Rattle.llb_ops.specs.declared.owners.User.TheVariants.{ByName, ById}
use Rattle.llb_ops.specs.Records.{int64, int32, uint32, flag, number, joined, is_member, one_of, message_of}
use Rattle.llb_ops.specs.Messages.{input_shape, input_of, users, user_of, user_opt_shape, user_opt_of, chown_opt_shape, chown_opt_of}
use Rattle.llb_ops.specs.Messages.{mk_file_shape, mk_file_of, mk_dir_shape, mk_dir_of, copy_file_shape, copy_file_of, copy_file_with}
use Rattle.llb_ops.specs.Messages.{rm_shape, rm_of, action_shape, action_kinds, action_kind_of, action_of, file_op_shape, file_op_of}
use Rattle.llb_ops.specs.Messages.{exec_op_of, source_op_of, merge_op_of, op_shape, kinds, kind_of, op_message_of, op_of, action_in}
use Rattle.llb_ops.specs.Messages.{chown_opt_in, copy_file_in, file_op_in, input_in, mk_dir_in, mk_file_in, op_in, rm_in, user_opt_in}
use Rattle.llb_ops.specs.Limits.{entry_limit}
use Rattle.llb_ops.specs.ReadWriteLaws.{IsReadAgain}
use Rattle.llb_ops.specs.Writing.{bit, input_bytes, user_bytes, user_opt_bytes, chown_opt_bytes, mk_file_bytes, mk_dir_bytes}
use Rattle.llb_ops.specs.Writing.{copy_file_bytes, rm_bytes, exec_op_bytes, source_op_bytes, merge_op_bytes, action_kind_bytes}
use Rattle.llb_ops.specs.Writing.{action_bytes, file_op_bytes, kind_bytes, op_bytes, set_bytes, set_number}
use Rattle.llb_ops.proofs.RecordRoundTrip.{number_part, bytes_part}
use Rattle.llb_ops.proofs.TextValidity.{empty_utf8}
use Rattle.llb_ops.proofs.NumberRoundTrip.{from_signed, int64_recodes, int32_recodes, flag_recodes}
use Rattle.llb_ops.proofs.FieldRoundTrip.{IsShort, IsWritten, FieldOf, Returns, end, both, returns_by, ok_is}
use Rattle.llb_ops.proofs.FieldKindRoundTrips.{numeric, string, strings, message, messages, message_short, bytes_written, number_written, IsRead}
use Rattle.llb_ops.proofs.ExecRoundTrip.{exec_op_returns}
use Rattle.llb_ops.proofs.MergeRoundTrip.{merge_op_returns}
use Rattle.llb_ops.proofs.SourceRoundTrip.{source_op_returns}
use Rattle.llb_ops.proofs.OneofRoundTrip.{choice}

abbrev input_fields : FieldOf input_shape Input (List ℕ × (ℤ × Unit {0}))
input_fields = both (string 1 refl refl empty_utf8) (both (numeric 2 int64 from_signed int64_recodes refl refl) end refl) refl

abbrev pub input_made : List ℕ × (ℤ × Unit {0}) → List ℕ → Input
input_made a extra = record { digest = a.0; index = a.1.0; extra = extra }

-- an input that was read is read again of its canonical bytes
pub input_returns : Returns input_of input_bytes
unfolding message_of input_in input_bytes
input_returns = returns_by input_fields input_made input_of input_bytes refl (λ bytes. refl) (λ a extra. refl)

-- ---- users and groups

abbrev pub user_record : User → Record
user_record (ByName name) = bytes_part 1 name
user_record (ById id) = number_part 2 id

pub user_text : (a : User) → (user_record a).text ≡ user_bytes a
unfolding user_bytes set_bytes set_number
user_text (ByName name) = refl
user_text (ById id) = refl

pub user_own : (a : User) → is_member users (user_record a) ≡ true
user_own (ByName name) = refl
user_own (ById id) = refl

-- what holds of a user that was read: a number has 32 bits
abbrev pub UserRead : User → Type 0
UserRead (ByName name) = Unit {0}
UserRead (ById id) = id < 2 ^ 32

-- a user that was read is a name, or a number of 32 bits
pub user_cases : (first : Bool) (bytes : List ℕ) (v : ℕ) (a : User)
    → cond {A = Result User OpFault} first (Ok (ByName bytes)) (Ok (ById (uint32 v))) ≡ Ok a → UserRead a
user_cases true bytes v a e = subst UserRead (ok_is (ByName bytes) a e) tt
user_cases false bytes v a e = let small : uint32 v < 2 ^ 32 = omega arith in subst UserRead (ok_is (ById (uint32 v)) a e) small

pub user_written : (a : User) → UserRead a → IsWritten user_opt_shape (user_record a)
user_written (ByName name) h = bytes_written user_opt_shape 1 name refl refl refl
user_written (ById id) h = λ short. number_written user_opt_shape 2 id refl refl (omega (arith, h))

pub user_again : (a : User) → UserRead a → one_of users user_of (user_record a ∷ []) ≡ Ok (Some a)
user_again (ByName name) h = ap (λ b. Ok (Some (ByName b))) (append-nil name)
user_again (ById id) h = let same : uint32 id ≡ id = omega (arith, h) in ap (λ v. Ok (Some (ById v))) same

abbrev pub user_choice : FieldOf user_opt_shape UserOpt (Option User)
user_choice = choice users user_of user_record user_bytes user_text user_own
    (λ n xs a good e. user_written a (user_cases (n == 1) (joined xs) (number xs) a e))
    (λ n xs a good e short. user_again a (user_cases (n == 1) (joined xs) (number xs) a e))

abbrev user_opt_fields : FieldOf user_opt_shape UserOpt (Option User × Unit {0})
user_opt_fields = both user_choice end refl

abbrev pub user_opt_made : Option User × Unit {0} → List ℕ → UserOpt
user_opt_made a extra = record { user = a.0; extra = extra }

-- a user or a group that was read is read again of its canonical bytes
pub user_opt_returns : Returns user_opt_of user_opt_bytes
unfolding message_of user_opt_in user_opt_bytes
user_opt_returns = returns_by user_opt_fields user_opt_made user_opt_of user_opt_bytes refl (λ bytes. refl) (λ a extra. refl)

abbrev chown_opt_fields : FieldOf chown_opt_shape ChownOpt (Option UserOpt × (Option UserOpt × Unit {0}))
chown_opt_fields = both (message 1 user_opt_of user_opt_bytes user_opt_returns refl refl)
    (both (message 2 user_opt_of user_opt_bytes user_opt_returns refl refl) end refl) refl

abbrev pub chown_opt_made : Option UserOpt × (Option UserOpt × Unit {0}) → List ℕ → ChownOpt
chown_opt_made a extra = record { user = a.0; group = a.1.0; extra = extra }

-- an owner, a user and a group, that was read is read again of its canonical bytes
pub chown_opt_returns : Returns chown_opt_of chown_opt_bytes
unfolding message_of chown_opt_in chown_opt_bytes
chown_opt_returns = returns_by chown_opt_fields chown_opt_made chown_opt_of chown_opt_bytes refl (λ bytes. refl) (λ a extra. refl)

-- ---- file actions

abbrev mk_file_fields : FieldOf mk_file_shape MkFile (List ℕ × (ℤ × (List ℕ × (Option ChownOpt × (ℤ × Unit {0})))))
mk_file_fields =
    both (string 1 refl refl empty_utf8)
    (both (numeric 2 int32 from_signed int32_recodes refl refl)
    (both (string 3 refl refl refl)
    (both (message 4 chown_opt_of chown_opt_bytes chown_opt_returns refl refl)
    (both (numeric 5 int64 from_signed int64_recodes refl refl) end refl) refl) refl) refl) refl

abbrev pub mk_file_made : List ℕ × (ℤ × (List ℕ × (Option ChownOpt × (ℤ × Unit {0})))) → List ℕ → MkFile
mk_file_made a extra = record { path = a.0; mode = a.1.0; body = a.1.1.0; owner = a.1.1.1.0; timestamp = a.1.1.1.1.0; extra = extra }

pub mk_file_returns : Returns mk_file_of mk_file_bytes
unfolding message_of mk_file_in mk_file_bytes
mk_file_returns = returns_by mk_file_fields mk_file_made mk_file_of mk_file_bytes refl (λ bytes. refl) (λ a extra. refl)

abbrev mk_dir_fields : FieldOf mk_dir_shape MkDir (List ℕ × (ℤ × (Bool × (Option ChownOpt × (ℤ × Unit {0})))))
mk_dir_fields =
    both (string 1 refl refl empty_utf8)
    (both (numeric 2 int32 from_signed int32_recodes refl refl)
    (both (numeric 3 flag bit flag_recodes refl refl)
    (both (message 4 chown_opt_of chown_opt_bytes chown_opt_returns refl refl)
    (both (numeric 5 int64 from_signed int64_recodes refl refl) end refl) refl) refl) refl) refl

abbrev pub mk_dir_made : List ℕ × (ℤ × (Bool × (Option ChownOpt × (ℤ × Unit {0})))) → List ℕ → MkDir
mk_dir_made a extra = record { path = a.0; mode = a.1.0; make_parents = a.1.1.0; owner = a.1.1.1.0; timestamp = a.1.1.1.1.0; extra = extra }

pub mk_dir_returns : Returns mk_dir_of mk_dir_bytes
unfolding message_of mk_dir_in mk_dir_bytes
mk_dir_returns = returns_by mk_dir_fields mk_dir_made mk_dir_of mk_dir_bytes refl (λ bytes. refl) (λ a extra. refl)

abbrev copy_file_fields : FieldOf copy_file_shape CopyFile
    (List ℕ × (List ℕ × (Option ChownOpt × (ℤ × (Bool × (Bool × (Bool × (Bool × (Bool × (Bool × (ℤ × (List (List ℕ) × (List (List ℕ) × Unit {0})))))))))))))
copy_file_fields =
    both (string 1 refl refl empty_utf8)
    (both (string 2 refl refl empty_utf8)
    (both (message 3 chown_opt_of chown_opt_bytes chown_opt_returns refl refl)
    (both (numeric 4 int32 from_signed int32_recodes refl refl)
    (both (numeric 5 flag bit flag_recodes refl refl)
    (both (numeric 6 flag bit flag_recodes refl refl)
    (both (numeric 7 flag bit flag_recodes refl refl)
    (both (numeric 8 flag bit flag_recodes refl refl)
    (both (numeric 9 flag bit flag_recodes refl refl)
    (both (numeric 10 flag bit flag_recodes refl refl)
    (both (numeric 11 int64 from_signed int64_recodes refl refl)
    (both (strings 12 refl refl)
    (both (strings 13 refl refl) end refl) refl) refl) refl) refl) refl) refl) refl) refl) refl) refl) refl) refl

abbrev pub copy_file_made : List ℕ
    × (List ℕ × (Option ChownOpt
    × (ℤ × (Bool × (Bool × (Bool × (Bool × (Bool × (Bool × (ℤ × (List (List ℕ) × (List (List ℕ) × Unit {0})))))))))))) → List ℕ → CopyFile
copy_file_made a extra = record {
  src = a.0;
  dest = a.1.0;
  owner = a.1.1.0;
  mode = a.1.1.1.0;
  follow_symlink = a.1.1.1.1.0;
  dir_copy_contents = a.1.1.1.1.1.0;
  attempt_unpack_docker_compatibility = a.1.1.1.1.1.1.0;
  create_dest_path = a.1.1.1.1.1.1.1.0;
  allow_wildcard = a.1.1.1.1.1.1.1.1.0;
  allow_empty_wildcard = a.1.1.1.1.1.1.1.1.1.0;
  timestamp = a.1.1.1.1.1.1.1.1.1.1.0;
  include_patterns = a.1.1.1.1.1.1.1.1.1.1.1.0;
  exclude_patterns = a.1.1.1.1.1.1.1.1.1.1.1.1.0;
  extra = extra;
}

pub copy_file_returns : Returns copy_file_of copy_file_bytes
unfolding message_of copy_file_in copy_file_with copy_file_bytes
copy_file_returns = returns_by copy_file_fields copy_file_made copy_file_of copy_file_bytes refl (λ bytes. refl) (λ a extra. refl)

abbrev rm_fields : FieldOf rm_shape Rm (List ℕ × (Bool × (Bool × Unit {0})))
rm_fields =
    both (string 1 refl refl empty_utf8)
    (both (numeric 2 flag bit flag_recodes refl refl)
    (both (numeric 3 flag bit flag_recodes refl refl) end refl) refl) refl

abbrev pub rm_made : List ℕ × (Bool × (Bool × Unit {0})) → List ℕ → Rm
rm_made a extra = record { path = a.0; allow_not_found = a.1.0; allow_wildcard = a.1.1.0; extra = extra }

pub rm_returns : Returns rm_of rm_bytes
unfolding message_of rm_in rm_bytes
rm_returns = returns_by rm_fields rm_made rm_of rm_bytes refl (λ bytes. refl) (λ a extra. refl)

abbrev pub action_record : ActionKind → Record
action_record (action.Copy m) = bytes_part 4 (copy_file_bytes m)
action_record (action.MkFile m) = bytes_part 5 (mk_file_bytes m)
action_record (action.MkDir m) = bytes_part 6 (mk_dir_bytes m)
action_record (action.Rm m) = bytes_part 7 (rm_bytes m)

pub action_text : (a : ActionKind) → (action_record a).text ≡ action_kind_bytes a
unfolding action_kind_bytes set_bytes
action_text (action.Copy m) = refl
action_text (action.MkFile m) = refl
action_text (action.MkDir m) = refl
action_text (action.Rm m) = refl

pub action_own : (a : ActionKind) → is_member action_kinds (action_record a) ≡ true
action_own (action.Copy m) = refl
action_own (action.MkFile m) = refl
action_own (action.MkDir m) = refl
action_own (action.Rm m) = refl

abbrev pub ActionRead : ActionKind → Type 0
ActionRead (action.Copy m) = IsRead copy_file_of m
ActionRead (action.MkFile m) = IsRead mk_file_of m
ActionRead (action.MkDir m) = IsRead mk_dir_of m
ActionRead (action.Rm m) = IsRead rm_of m

-- what holds of each message that these bytes are read as holds of the member that was made of such a message
of_message : {M A : Type 0} (P : A → Type 0) (read : List ℕ → Result M OpFault) (make : M → A) (bytes : List ℕ) (a : A)
    → (read bytes >>= λ m. Ok (make m)) ≡ Ok a → ((m : M) → read bytes ≡ Ok m → P (make m)) → P a
of_message P read make bytes a e h =
    let m = bind_ok (read bytes) (λ m. Ok (make m)) a e in
    subst P (ok_is (make m.0) a m.2) (h m.0 m.1)

action_cases : (b4 b5 b6 : Bool) (bytes : List ℕ) (a : ActionKind)
    → cond {A = Result ActionKind OpFault} b4 (copy_file_of bytes >>= λ m. Ok (action.Copy m))
    (cond b5 (mk_file_of bytes >>= λ m. Ok (action.MkFile m))
    (cond b6 (mk_dir_of bytes >>= λ m. Ok (action.MkDir m)) (rm_of bytes >>= λ m. Ok (action.Rm m)))) ≡ Ok a → ActionRead a
action_cases true b5 b6 bytes a e = of_message ActionRead copy_file_of (λ m. action.Copy m) bytes a e (λ m h. (bytes, h))
action_cases false true b6 bytes a e = of_message ActionRead mk_file_of (λ m. action.MkFile m) bytes a e (λ m h. (bytes, h))
action_cases false false true bytes a e = of_message ActionRead mk_dir_of (λ m. action.MkDir m) bytes a e (λ m h. (bytes, h))
action_cases false false false bytes a e = of_message ActionRead rm_of (λ m. action.Rm m) bytes a e (λ m h. (bytes, h))

-- a file action that was read, if its kind is a message, has this message as it was read of some bytes
pub action_from : (n : ℕ) (xs : List Record) (a : ActionKind) → action_kind_of n xs ≡ Ok a → ActionRead a
action_from n xs a e = action_cases (n == 4) (n == 5) (n == 6) (joined xs) a e

pub action_written : (a : ActionKind) → IsWritten action_shape (action_record a)
action_written (action.Copy m) = bytes_written action_shape 4 (copy_file_bytes m) refl refl refl
action_written (action.MkFile m) = bytes_written action_shape 5 (mk_file_bytes m) refl refl refl
action_written (action.MkDir m) = bytes_written action_shape 6 (mk_dir_bytes m) refl refl refl
action_written (action.Rm m) = bytes_written action_shape 7 (rm_bytes m) refl refl refl

pub action_again : (a : ActionKind) → ActionRead a → IsShort (action_record a) → one_of action_kinds action_kind_of (action_record a ∷ []) ≡ Ok (Some a)
action_again (action.Copy m) h short = rw (append-nil (copy_file_bytes m), message_short copy_file_of copy_file_bytes 4 m h copy_file_returns short) refl
action_again (action.MkFile m) h short = rw (append-nil (mk_file_bytes m), message_short mk_file_of mk_file_bytes 5 m h mk_file_returns short) refl
action_again (action.MkDir m) h short = rw (append-nil (mk_dir_bytes m), message_short mk_dir_of mk_dir_bytes 6 m h mk_dir_returns short) refl
action_again (action.Rm m) h short = rw (append-nil (rm_bytes m), message_short rm_of rm_bytes 7 m h rm_returns short) refl

abbrev pub action_choice : FieldOf action_shape Action (Option ActionKind)
action_choice = choice action_kinds action_kind_of action_record action_kind_bytes action_text action_own
    (λ n xs a good e. action_written a)
    (λ n xs a good e short. action_again a (action_from n xs a e) short)

abbrev action_fields : FieldOf action_shape Action (ℤ × (ℤ × (ℤ × (Option ActionKind × Unit {0}))))
action_fields =
    both (numeric 1 int64 from_signed int64_recodes refl refl)
    (both (numeric 2 int64 from_signed int64_recodes refl refl)
    (both (numeric 3 int64 from_signed int64_recodes refl refl)
    (both action_choice end refl) refl) refl) refl

abbrev pub action_made : ℤ × (ℤ × (ℤ × (Option ActionKind × Unit {0}))) → List ℕ → Action
action_made a extra = record { input = a.0; secondary_input = a.1.0; output = a.1.1.0; kind = a.1.1.1.0; extra = extra }

-- a file action that was read is read again of its canonical bytes
pub action_returns : Returns action_of action_bytes
unfolding message_of action_in action_bytes
action_returns = returns_by action_fields action_made action_of action_bytes refl (λ bytes. refl) (λ a extra. refl)

abbrev file_op_fields : FieldOf file_op_shape FileOp (List Action × Unit {0})
file_op_fields = both (messages 2 action_of action_bytes action_returns refl refl) end refl

abbrev pub file_op_made : List Action × Unit {0} → List ℕ → FileOp
file_op_made a extra = record { actions = a.0; extra = extra }

pub file_op_returns : Returns file_op_of file_op_bytes
unfolding message_of file_op_in file_op_bytes
file_op_returns = returns_by file_op_fields file_op_made file_op_of file_op_bytes refl (λ bytes. refl) (λ a extra. refl)

-- ---- ops

abbrev pub kind_record : Kind → Record
kind_record (Exec m) = bytes_part 2 (exec_op_bytes m)
kind_record (Source m) = bytes_part 3 (source_op_bytes m)
kind_record (File m) = bytes_part 4 (file_op_bytes m)
kind_record (Build bytes) = bytes_part 5 bytes
kind_record (Merge m) = bytes_part 6 (merge_op_bytes m)
kind_record (Diff bytes) = bytes_part 7 bytes

pub kind_text : (a : Kind) → (kind_record a).text ≡ kind_bytes a
unfolding kind_bytes set_bytes
kind_text (Exec m) = refl
kind_text (Source m) = refl
kind_text (File m) = refl
kind_text (Build bytes) = refl
kind_text (Merge m) = refl
kind_text (Diff bytes) = refl

-- the record that an op's kind is written to is of a member of the oneof
pub kind_own : (a : Kind) → is_member kinds (kind_record a) ≡ true
kind_own (Exec m) = refl
kind_own (Source m) = refl
kind_own (File m) = refl
kind_own (Build bytes) = refl
kind_own (Merge m) = refl
kind_own (Diff bytes) = refl

-- an op's kind was read of these bytes, if it is a message
abbrev pub KindRead : List ℕ → Kind → Type 0
KindRead bytes (Exec m) = exec_op_of bytes ≡ Ok m
KindRead bytes (Source m) = source_op_of bytes ≡ Ok m
KindRead bytes (File m) = file_op_of bytes ≡ Ok m
KindRead bytes (Build held) = Unit {0}
KindRead bytes (Merge m) = merge_op_of bytes ≡ Ok m
KindRead bytes (Diff held) = Unit {0}

kind_cases : (b2 b3 b4 b5 b6 : Bool) (bytes : List ℕ) (a : Kind)
    → cond {A = Result Kind OpFault} b2 (exec_op_of bytes >>= λ m. Ok (Exec m))
    (cond b3 (source_op_of bytes >>= λ m. Ok (Source m))
    (cond b4 (file_op_of bytes >>= λ m. Ok (File m))
    (cond b5 (Ok (Build bytes)) (cond b6 (merge_op_of bytes >>= λ m. Ok (Merge m)) (Ok (Diff bytes)))))) ≡ Ok a → KindRead bytes a
kind_cases true b3 b4 b5 b6 bytes a e = of_message (KindRead bytes) exec_op_of (λ m. Exec m) bytes a e (λ m h. h)
kind_cases false true b4 b5 b6 bytes a e = of_message (KindRead bytes) source_op_of (λ m. Source m) bytes a e (λ m h. h)
kind_cases false false true b5 b6 bytes a e = of_message (KindRead bytes) file_op_of (λ m. File m) bytes a e (λ m h. h)
kind_cases false false false true b6 bytes a e = subst (KindRead bytes) (ok_is (Build bytes) a e) tt
kind_cases false false false false true bytes a e = of_message (KindRead bytes) merge_op_of (λ m. Merge m) bytes a e (λ m h. h)
kind_cases false false false false false bytes a e = subst (KindRead bytes) (ok_is (Diff bytes) a e) tt

-- an op's kind that was read and is a message was read of its records' payloads, one after the other
pub kind_from : (n : ℕ) (xs : List Record) (a : Kind) → kind_of n xs ≡ Ok a → KindRead (joined xs) a
unfolding kind_of
kind_from n xs a e = kind_cases (n == 2) (n == 3) (n == 4) (n == 5) (n == 6) (joined xs) a e

-- the record that an op's kind is written to is good, where it is not too long
pub kind_written : (a : Kind) → IsWritten op_shape (kind_record a)
kind_written (Exec m) = bytes_written op_shape 2 (exec_op_bytes m) refl refl refl
kind_written (Source m) = bytes_written op_shape 3 (source_op_bytes m) refl refl refl
kind_written (File m) = bytes_written op_shape 4 (file_op_bytes m) refl refl refl
kind_written (Build bytes) = bytes_written op_shape 5 bytes refl refl refl
kind_written (Merge m) = bytes_written op_shape 6 (merge_op_bytes m) refl refl refl
kind_written (Diff bytes) = bytes_written op_shape 7 bytes refl refl refl

-- an op's kind that was read is read again of the one record that it is written to
pub kind_again : (bytes : List ℕ) (a : Kind) → KindRead bytes a → IsShort (kind_record a) → one_of kinds kind_of (kind_record a ∷ []) ≡ Ok (Some a)
unfolding kind_of
kind_again bytes (Exec m) h short = rw (append-nil (exec_op_bytes m), message_short exec_op_of exec_op_bytes 2 m (bytes, h) exec_op_returns short) refl
kind_again bytes (Source m) h short =
    rw (append-nil (source_op_bytes m), message_short source_op_of source_op_bytes 3 m (bytes, h) source_op_returns short) refl
kind_again bytes (File m) h short = rw (append-nil (file_op_bytes m), message_short file_op_of file_op_bytes 4 m (bytes, h) file_op_returns short) refl
kind_again bytes (Build held) h short = ap (λ b. Ok (Some (Build b))) (append-nil held)
kind_again bytes (Merge m) h short = rw (append-nil (merge_op_bytes m), message_short merge_op_of merge_op_bytes 6 m (bytes, h) merge_op_returns short) refl
kind_again bytes (Diff held) h short = ap (λ b. Ok (Some (Diff b))) (append-nil held)

abbrev pub kind_choice : FieldOf op_shape Op (Option Kind)
kind_choice = choice kinds kind_of kind_record kind_bytes kind_text kind_own
    (λ n xs a good e. kind_written a)
    (λ n xs a good e short. kind_again (joined xs) a (kind_from n xs a e) short)

abbrev op_fields : FieldOf op_shape Op (List Input × (Option Kind × Unit {0}))
op_fields =
    both (messages 1 input_of input_bytes input_returns refl refl)
    (both kind_choice end refl) refl

abbrev pub op_made : List Input × (Option Kind × Unit {0}) → List ℕ → Op
op_made a extra = record { inputs = a.0; kind = a.1.0; extra = extra }

pub op_message_returns : Returns op_message_of op_bytes
unfolding message_of op_in op_bytes
op_message_returns = returns_by op_fields op_made op_message_of op_bytes refl (λ bytes. refl) (λ a extra. refl)

-- an op that an entry is read as after the test of its length is the op that it is read as without this test
pub entry_cases : (b : Bool) (r : Result Op OpFault) (op : Op) → cond b (Err OverLimit) r ≡ Ok op → r ≡ Ok op
entry_cases true r op e = absurd cc
entry_cases false r op e = e

-- an op that an entry is read as is read again from its canonical bytes, where these are within the limit of an entry
pub op_returns : (op : Op) → IsReadAgain op
unfolding op_of
op_returns op entry e short =
    let long : ltb entry_limit (length (op_bytes op)) ≡ false = le-ltb _ _ short in
    rw long (op_message_returns entry op (entry_cases (ltb entry_limit (length entry)) (op_message_of entry) op e) (omega (arith, short)))
