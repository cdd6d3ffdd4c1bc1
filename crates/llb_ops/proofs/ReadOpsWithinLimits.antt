-- What is read is within the limits: each message by what it is from its records.
use Rattle.std.proofs.Common.{◌≡◌, ℕ, ◌≤◌, Bool, true, false, cond, ltb, List, [], ◌∷◌, Option, Some, None, Result, Ok, Err, length, refl, ap, subst, arith}
use Rattle.std.specs.Prelude.{nat_le, IfOk}
use Rattle.std.specs.List.{AllByRecursion}
use Rattle.std.proofs.lemmas.Bool.{leb-true, ltb-false}
use Rattle.std.proofs.lemmas.List.{length-map}
use Rattle.std.proofs.lemmas.List.Elements.{All-from_recursion}
use Rattle.llb_wire.specs.CallResults.{◌>>=◌}
use Rattle.llb_wire.proofs.RuleComposition.{bind_ok}
use Rattle.llb_wire.specs.Records.{Record}
use Rattle.llb_ops.specs.declared.fault.OpFault.{OpFault}
use Rattle.llb_ops.specs.declared.fault.OpFault.TheVariants.{OverLimit}
use Rattle.llb_ops.specs.declared.op.Op.{Op}
use Rattle.llb_ops.specs.declared.op.Kind.{Kind}
use Rattle.llb_ops.specs.declared.op.Kind.TheVariants.{Exec, Source, File, Build, Merge, Diff}
use Rattle.llb_ops.specs.declared.file_op.FileOp.{FileOp}
use Rattle.llb_ops.specs.declared.file_op.Action.{Action}
use Rattle.llb_ops.specs.declared.file_op.ActionKind.{ActionKind}
use Rattle.llb_ops.specs.declared.file_op.ActionKind.TheVariants as action
use Rattle.llb_ops.specs.declared.actions.CopyFile.{CopyFile}
use Rattle.llb_ops.specs.declared.exec.ExecOp.{ExecOp}
use Rattle.llb_ops.specs.declared.exec.Meta.{Meta}
use Rattle.llb_ops.specs.declared.merge.MergeOp.{MergeOp}
use Rattle.llb_ops.specs.declared.source.SourceOp.{SourceOp}
use Rattle.llb_ops.specs.Limits.{field_limit, entry_limit, entries_limit}
use Rattle.llb_ops.specs.Attributes.{settled}
use Rattle.llb_ops.specs.Records.{Shape, parts, message_of, all, payloads, joined, one, each, one_of, member, member_of, chosen, within_limits}
use Rattle.llb_ops.specs.Messages.{chown_opt_of, copy_file_of, copy_file_in, copy_file_shape, copy_file_with, action_of, action_in}
use Rattle.llb_ops.specs.Messages.{action_shape, action_kinds, action_kind_of, file_op_of, file_op_in, file_op_shape, meta_of, meta_in}
use Rattle.llb_ops.specs.Messages.{meta_shape, mount_of, exec_op_of, exec_op_in, exec_op_shape, merge_input_of, merge_op_of, merge_op_in}
use Rattle.llb_ops.specs.Messages.{merge_op_shape, attribute_entry_of, source_op_of, source_op_in, source_op_shape, input_of, kinds}
use Rattle.llb_ops.specs.Messages.{kind_of, op_shape, op_in, op_message_of}
use Rattle.llb_ops.specs.Definition.{definition_of, are_short}
use Rattle.llb_ops.specs.Faults.{Gives}
use Rattle.llb_ops.specs.OpsWithinLimits.{IsFew, IsMetaWithin, IsMetaOptWithin, IsExecWithin, IsCopyWithin, IsActionWithin, IsFileWithin}
use Rattle.llb_ops.specs.OpsWithinLimits.{IsKindWithin, IsWithinLimits, AreWithinLimits}
use Rattle.llb_ops.proofs.RecordsReadBack.{guard_ended}
use Rattle.llb_ops.proofs.FieldRoundTrip.{ok_is}
use Rattle.llb_ops.proofs.RecordsByFieldNumber.{All-map, and_both}
use Rattle.llb_ops.proofs.DistinctAttributes.{settled_length}
use Rattle.llb_ops.proofs.FieldKindRoundTrips.{IsRead, each_length, each_read}
use Rattle.llb_ops.proofs.MessageRoundTrips.{ActionRead, action_from, KindRead, kind_from}
use Rattle.llb_ops.proofs.EntryCounting.{still_fit}
use Rattle.llb_ops.proofs.PayloadSizes.{parts_size, all_size, member_size, each_size}

-- a message is read of records whose payloads are together no longer than the message's bytes
sized_read_of : {M : Type 0} (shape : Shape) (read : List Record → Result M OpFault) (bytes : List ℕ) (m : M)
    → message_of shape read bytes ≡ Ok m → (rs : List Record) × (read rs ≡ Ok m) × (length (joined rs) ≤ length bytes)
unfolding message_of
sized_read_of shape read bytes m e = let r = bind_ok (parts shape bytes) read m e in (r.0, r.2, parts_size shape bytes r.0 r.1)

read_of : {M : Type 0} (shape : Shape) (read : List Record → Result M OpFault) (bytes : List ℕ) (m : M)
    → message_of shape read bytes ≡ Ok m → (rs : List Record) × (read rs ≡ Ok m)
read_of shape read bytes m e = let r = sized_read_of shape read bytes m e in (r.0, r.1)

-- if the records of several fields are within the limits, so are those of the first field and those of the others
first_few : (n : ℕ) (ns : List ℕ) (rs : List Record) → within_limits (n ∷ ns) rs ≡ true → (length (all n rs) ≤ field_limit) × (within_limits ns rs ≡ true)
first_few n ns rs e =
    let both = and_both (nat_le (length (all n rs)) field_limit) (within_limits ns rs) e in
    (leb-true (length (all n rs)) field_limit both.0, both.1)

few_payloads : (xs : List Record) → length xs ≤ field_limit → IsFew (payloads xs)
few_payloads xs few = omega (arith, few, length-map xs (λ r. r.payload))

few_messages : {M : Type 0} (read : List ℕ → Result M OpFault) (xs : List Record) (ms : List M) → each read xs ≡ Ok ms → length xs ≤ field_limit → IsFew ms
few_messages read xs ms e few = omega (arith, few, each_length read xs ms e)

-- ---- file actions

copy_within : (bytes : List ℕ) (m : CopyFile) → copy_file_of bytes ≡ Ok m → IsCopyWithin m
unfolding copy_file_in copy_file_with
copy_within bytes m e =
    let r = read_of copy_file_shape copy_file_in bytes m e in
    let rs = r.0 in
    let o = bind_ok (one chown_opt_of (all 3 rs)) (λ owner. cond (within_limits (12 ∷ 13 ∷ []) rs) (Ok (copy_file_with rs owner)) (Err OverLimit)) m r.1 in
    let w = guard_ended (within_limits (12 ∷ 13 ∷ []) rs) OverLimit (copy_file_with rs o.0) m o.2 in
    let include = first_few 12 (13 ∷ []) rs w.0 in
    let exclude = first_few 13 [] rs include.1 in
    subst (λ (x : CopyFile). IsCopyWithin x) w.1
    (record { include_patterns = few_payloads (all 12 rs) include.0; exclude_patterns = few_payloads (all 13 rs) exclude.0 })

action_kind_within : (a : ActionKind) → ActionRead a → IsActionWithin (Some a)
action_kind_within (action.Copy m) h = copy_within h.0 m h.1
action_kind_within (action.MkFile m) h = tt
action_kind_within (action.MkDir m) h = tt
action_kind_within (action.Rm m) h = tt

abbrev some_action : Option ActionKind → Result (Option ActionKind) OpFault
some_action o = Ok o

action_member : (c : Option ℕ) (rs : List Record) (o : Option ActionKind) → member_of action_kinds action_kind_of c rs ≡ Ok o → IsActionWithin o
action_member None rs o e = subst (λ (x : Option ActionKind). IsActionWithin x) (ok_is None o e) tt
action_member (Some n) rs o e =
    let a = bind_ok (action_kind_of n (member action_kinds n rs)) (λ a. some_action (Some a)) o e in
    subst (λ (x : Option ActionKind). IsActionWithin x) (ok_is (Some a.0) o a.2) (action_kind_within a.0 (action_from n (member action_kinds n rs) a.0 a.1))

action_within : (a : Action) → IsRead action_of a → IsActionWithin a.kind
unfolding action_in
action_within a h =
    let r = read_of action_shape action_in h.0 a h.1 in
    let k = bind_ok (one_of action_kinds action_kind_of r.0) _ a r.1 in
    let kind : k.0 ≡ a.kind = ap (λ (x : Action). x.kind) (ok_is _ a k.2) in
    subst (λ (x : Option ActionKind). IsActionWithin x) kind (action_member (chosen action_kinds r.0) r.0 k.0 k.1)

file_within : (bytes : List ℕ) (m : FileOp) → file_op_of bytes ≡ Ok m → IsFileWithin m
unfolding file_op_in
file_within bytes m e =
    let r = read_of file_op_shape file_op_in bytes m e in
    let rs = r.0 in
    let a = bind_ok (each action_of (all 2 rs)) _ m r.1 in
    let w = guard_ended (within_limits (2 ∷ []) rs) OverLimit _ m a.2 in
    let few = few_messages action_of (all 2 rs) a.0 a.1 (first_few 2 [] rs w.0).0 in
    let read = All-map (IsRead action_of) (λ x. IsActionWithin x.kind) a.0 action_within (each_read action_of (all 2 rs) a.0 a.1) in
    subst (λ (x : FileOp). IsFileWithin x) w.1 (record { actions = few; each = All-from_recursion (λ (x : Action). IsActionWithin x.kind) a.0 read })

-- ---- executions

meta_within : (bytes : List ℕ) (m : Meta) → length bytes ≤ entry_limit → meta_of bytes ≡ Ok m → IsMetaWithin m
unfolding meta_in
meta_within bytes m size e =
    let r = sized_read_of meta_shape meta_in bytes m e in
    let rs = r.0 in
    let w = guard_ended (within_limits (1 ∷ 2 ∷ []) rs) OverLimit _ m r.1 in
    let texts = each_size entry_limit (all 1 rs) (omega (arith, size, r.2, all_size 1 rs)) in
    let args = first_few 1 (2 ∷ []) rs w.0 in
    let env = first_few 2 [] rs args.1 in
    subst (λ (x : Meta). IsMetaWithin x) w.1 (record {
      args = few_payloads (all 1 rs) args.0;
      env = few_payloads (all 2 rs) env.0;
      short = All-from_recursion (λ (a : List ℕ). length a ≤ entry_limit) (payloads (all 1 rs)) texts;
    })

meta_opt_within : (xs : List Record) (b : Bool) (o : Option Meta) → length (joined xs) ≤ entry_limit
    → cond {A = Result (Option Meta) OpFault} b (Ok None) (meta_of (joined xs) >>= λ m. Ok (Some m)) ≡ Ok o → IsMetaOptWithin o
meta_opt_within xs true o size e = subst (λ (x : Option Meta). IsMetaOptWithin x) (ok_is None o e) tt
meta_opt_within xs false o size e =
    let m = bind_ok (meta_of (joined xs)) (λ m. Ok (Some m)) o e in
    subst (λ (x : Option Meta). IsMetaOptWithin x) (ok_is (Some m.0) o m.2) (meta_within (joined xs) m.0 size m.1)

one_meta : (xs : List Record) (o : Option Meta) → length (joined xs) ≤ entry_limit → one meta_of xs ≡ Ok o → IsMetaOptWithin o
unfolding one
one_meta xs o size e = meta_opt_within xs _ o size e

exec_within : (bytes : List ℕ) (m : ExecOp) → length bytes ≤ entry_limit → exec_op_of bytes ≡ Ok m → IsExecWithin m
unfolding exec_op_in
exec_within bytes m size e =
    let r = sized_read_of exec_op_shape exec_op_in bytes m e in
    let rs = r.0 in
    let n = bind_ok (one meta_of (all 1 rs)) _ m r.1 in
    let a = bind_ok (each mount_of (all 2 rs)) _ m n.2 in
    let w = guard_ended (within_limits (2 ∷ 5 ∷ []) rs) OverLimit _ m a.2 in
    let mounts = first_few 2 (5 ∷ []) rs w.0 in
    let secretenv = first_few 5 [] rs mounts.1 in
    subst (λ (x : ExecOp). IsExecWithin x) w.1 (record {
      meta = one_meta (all 1 rs) n.0 (omega (arith, size, r.2, all_size 1 rs)) n.1;
      mounts = few_messages mount_of (all 2 rs) a.0 a.1 mounts.0;
      secretenv = few_payloads (all 5 rs) secretenv.0;
    })

-- ---- merges and sources

merge_within : (bytes : List ℕ) (m : MergeOp) → merge_op_of bytes ≡ Ok m → IsFew m.inputs
unfolding merge_op_in
merge_within bytes m e =
    let r = read_of merge_op_shape merge_op_in bytes m e in
    let rs = r.0 in
    let a = bind_ok (each merge_input_of (all 1 rs)) _ m r.1 in
    let w = guard_ended (within_limits (1 ∷ []) rs) OverLimit _ m a.2 in
    subst (λ (x : MergeOp). IsFew x.inputs) w.1 (few_messages merge_input_of (all 1 rs) a.0 a.1 (first_few 1 [] rs w.0).0)

source_within : (bytes : List ℕ) (m : SourceOp) → source_op_of bytes ≡ Ok m → IsFew m.attrs
unfolding source_op_in
source_within bytes m e =
    let r = read_of source_op_shape source_op_in bytes m e in
    let rs = r.0 in
    let a = bind_ok (each attribute_entry_of (all 2 rs)) _ m r.1 in
    let w = guard_ended (within_limits (2 ∷ []) rs) OverLimit _ m a.2 in
    let few : IsFew a.0 = few_messages attribute_entry_of (all 2 rs) a.0 a.1 (first_few 2 [] rs w.0).0 in
    let held : IsFew (settled a.0) = omega (arith, few, settled_length a.0) in
    subst (λ (x : SourceOp). IsFew x.attrs) w.1 held

-- ---- ops

kind_within : (bytes : List ℕ) (k : Kind) → length bytes ≤ entry_limit → KindRead bytes k → IsKindWithin (Some k)
kind_within bytes (Exec m) size h = exec_within bytes m size h
kind_within bytes (Source m) size h = source_within bytes m h
kind_within bytes (File m) size h = file_within bytes m h
kind_within bytes (Build held) size h = tt
kind_within bytes (Merge m) size h = merge_within bytes m h
kind_within bytes (Diff held) size h = tt

abbrev some_kind : Option Kind → Result (Option Kind) OpFault
some_kind o = Ok o

kind_member : (c : Option ℕ) (rs : List Record) (o : Option Kind) → length (joined rs) ≤ entry_limit → member_of kinds kind_of c rs ≡ Ok o → IsKindWithin o
kind_member None rs o size e = subst (λ (x : Option Kind). IsKindWithin x) (ok_is None o e) tt
kind_member (Some n) rs o size e =
    let a = bind_ok (kind_of n (member kinds n rs)) (λ a. some_kind (Some a)) o e in
    subst (λ (x : Option Kind). IsKindWithin x) (ok_is (Some a.0) o a.2)
    (kind_within (joined (member kinds n rs)) a.0 (omega (arith, size, member_size kinds n rs)) (kind_from n (member kinds n rs) a.0 a.1))

message_within : (bytes : List ℕ) (op : Op) → length bytes ≤ entry_limit → op_message_of bytes ≡ Ok op → IsWithinLimits op
unfolding op_in
message_within bytes op size e =
    let r = sized_read_of op_shape op_in bytes op e in
    let rs = r.0 in
    let i = bind_ok (each input_of (all 1 rs)) _ op r.1 in
    let k = bind_ok (one_of kinds kind_of rs) _ op i.2 in
    let w = guard_ended (within_limits (1 ∷ []) rs) OverLimit _ op k.2 in
    subst (λ (x : Op). IsWithinLimits x) w.1 (record {
      inputs = few_messages input_of (all 1 rs) i.0 i.1 (first_few 1 [] rs w.0).0;
      kind = kind_member (chosen kinds rs) rs k.0 (omega (arith, size, r.2)) k.1;
    })

-- an op that is read of an entry which is not too long is within the limits
pub op_read_within : (bytes : List ℕ) (r : Result Op OpFault) → length bytes ≤ entry_limit
    → Gives {X = Op} {Y = Op} (λ op. op) r (op_message_of bytes) → IfOk r IsWithinLimits
op_read_within bytes (Ok op) size h = message_within bytes op size h
op_read_within bytes (Err e) size h = tt

-- ---- definitions

each_short : (es : List (List ℕ)) → are_short es ≡ true → AllByRecursion (λ e. length e ≤ entry_limit) es
each_short [] h = tt
each_short (e ∷ es) h =
    let both = and_both (nat_le (length e) entry_limit) (are_short es) h in
    (leb-true (length e) entry_limit both.0, each_short es both.1)

fit_within : (es : List (List ℕ)) (a b : Bool) → ltb entries_limit (length es) ≡ a → are_short es ≡ b
    → cond {A = Result (List (List ℕ)) OpFault} a (Err OverLimit) (cond b (Ok es) (Err OverLimit)) ≡ Ok es → AreWithinLimits es
fit_within es true b f g e = absurd cc
fit_within es false true f g e = record {
  few = ltb-false entries_limit (length es) f;
  short = All-from_recursion (λ (e : List ℕ). length e ≤ entry_limit) es (each_short es g);
}
fit_within es false false f g e = absurd cc

-- the entries that a definition has are within the limits, by number and by length
pub entries_within : (bytes : List ℕ) (es : List (List ℕ)) → definition_of bytes ≡ Ok es → AreWithinLimits es
entries_within bytes es e = fit_within es (ltb entries_limit (length es)) (are_short es) refl refl (still_fit bytes es e)
