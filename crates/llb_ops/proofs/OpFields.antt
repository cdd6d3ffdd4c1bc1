-- Ops have fields by the table.
use Rattle.std.proofs.Common.{◌≡◌, ℕ, ◌≤◌, ltb, true, false, List, [], ◌∷◌, ◌++◌, length, Option, Some, refl, sym, subst, Ok, arith}
use Rattle.std.proofs.lemmas.Bool.{le-ltb}
use Rattle.std.proofs.lemmas.List.{append-nil}
use Rattle.llb_wire.specs.Records.{Record}
use Rattle.llb_ops.specs.declared.table.MessageName.TheVariants as name
use Rattle.llb_ops.specs.declared.op.Op.{Op}
use Rattle.llb_ops.specs.declared.op.Input.{Input}
use Rattle.llb_ops.specs.declared.op.Kind.{Kind}
use Rattle.llb_ops.specs.declared.op.Kind.TheVariants.{Exec, Source, File, Build, Merge, Diff}
use Rattle.llb_ops.specs.Limits.{entry_limit}
use Rattle.llb_ops.specs.Records.{joined, is_member, one_of, message_of}
use Rattle.llb_ops.specs.Messages.{input_of, source_op_of, kinds, kind_of, op_shape, op_message_of, op_in, op_of}
use Rattle.llb_ops.specs.Writing.{set_bytes, one_of_field, messages_field, input_bytes, exec_op_bytes, source_op_bytes, file_op_bytes, merge_op_bytes, op_bytes}
use Rattle.llb_ops.specs.CanonicalFields.{EntryHasFields, bytes_of, without_empty}
use Rattle.llb_ops.proofs.RecordRoundTrip.{bytes_part}
use Rattle.llb_ops.proofs.FieldRoundTrip.{IsShort, IsWritten, FieldOf, Returns, returns_by}
use Rattle.llb_ops.proofs.FieldKindRoundTrips.{bytes_written, message_short}
use Rattle.llb_ops.proofs.OneofRoundTrip.{choice}
use Rattle.llb_ops.proofs.MessageRoundTrips.{kind_record, kind_own, kind_written, kind_again, kind_choice, KindRead, kind_from, op_made, entry_cases}
use Rattle.llb_ops.proofs.MessageRoundTrips.{input_returns}
use Rattle.llb_ops.proofs.MergeAndExecFields.{exec_op_has, merge_op_has}
use Rattle.llb_ops.proofs.FileFields.{input_has, file_op_has}
use Rattle.llb_ops.proofs.SourceFields.{source_op_has, lean_source_bytes, lean_source_returns}
use Rattle.llb_ops.proofs.FieldOccurrences.{NoneOften, are_few, are_few_without}
use Rattle.llb_ops.proofs.LeadingTableFields.{tells_bytes, tells_message}
use Rattle.llb_ops.proofs.DroppedEmptyFields.{shorter}
use Rattle.llb_ops.proofs.TableFieldsOfKinds.{HasFrom, LeadsBy, next_is, is_repeated, Told, told_both, told_end, told_messages, tells_member, few_members}
use Rattle.llb_ops.proofs.TableFieldsOfKinds.{or_true}
use Rattle.llb_ops.proofs.TableFieldsOfKinds.{has_by, row_at}

-- the record of an op's kind without the empty keys and values of a source's attributes
abbrev lean_kind_record : Kind → Record
lean_kind_record (Exec m) = kind_record (Exec m)
lean_kind_record (Source m) = bytes_part 3 (lean_source_bytes m)
lean_kind_record (File m) = kind_record (File m)
lean_kind_record (Build held) = kind_record (Build held)
lean_kind_record (Merge m) = kind_record (Merge m)
lean_kind_record (Diff held) = kind_record (Diff held)

lean_own : (a : Kind) → is_member kinds (lean_kind_record a) ≡ true
lean_own (Exec m) = kind_own (Exec m)
lean_own (Source m) = refl
lean_own (File m) = kind_own (File m)
lean_own (Build held) = kind_own (Build held)
lean_own (Merge m) = kind_own (Merge m)
lean_own (Diff held) = kind_own (Diff held)

lean_written : (a : Kind) → IsWritten op_shape (lean_kind_record a)
lean_written (Exec m) = kind_written (Exec m)
lean_written (Source m) = bytes_written op_shape 3 (lean_source_bytes m) refl refl refl
lean_written (File m) = kind_written (File m)
lean_written (Build held) = kind_written (Build held)
lean_written (Merge m) = kind_written (Merge m)
lean_written (Diff held) = kind_written (Diff held)

lean_again : (bytes : List ℕ) (a : Kind) → KindRead bytes a → IsShort (lean_kind_record a) → one_of kinds kind_of (lean_kind_record a ∷ []) ≡ Ok (Some a)
unfolding kind_of
lean_again bytes (Exec m) h short = kind_again bytes (Exec m) h short
lean_again bytes (Source m) h short =
    rw (append-nil (lean_source_bytes m), message_short source_op_of lean_source_bytes 3 m (bytes, h) lean_source_returns short) refl
lean_again bytes (File m) h short = kind_again bytes (File m) h short
lean_again bytes (Build held) h short = kind_again bytes (Build held) h short
lean_again bytes (Merge m) h short = kind_again bytes (Merge m) h short
lean_again bytes (Diff held) h short = kind_again bytes (Diff held) h short

abbrev lean_kind_bytes : Kind → List ℕ
lean_kind_bytes a = (lean_kind_record a).text

abbrev lean_choice : FieldOf op_shape Op (Option Kind)
lean_choice =
    choice kinds kind_of lean_kind_record lean_kind_bytes (λ a. refl) lean_own (λ n xs a good e. lean_written a)
    (λ n xs a good e short. lean_again (joined xs) a (kind_from n xs a e) short)

kind_known : (entry : List ℕ) (a : Kind) → KindRead entry a → (k : ℕ) × (k ≤ 7) × LeadsBy name.Op 1 false k true (kind_record a) (lean_kind_record a)
unfolding set_bytes
kind_known entry (Exec m) h = (
  2,
  omega arith,
  tells_message name.Op name.ExecOp 1 false (row_at name.Op 2) (exec_op_bytes m) (exec_op_bytes m)
      (next_is refl refl) refl (exec_op_has entry m h),
)
kind_known entry (Source m) h = (
  3,
  omega arith,
  tells_message name.Op name.SourceOp 1 false (row_at name.Op 3) (source_op_bytes m) (lean_source_bytes m)
      (next_is refl refl) refl (source_op_has entry m h),
)
kind_known entry (File m) h = (
  4,
  omega arith,
  tells_message name.Op name.FileOp 1 false (row_at name.Op 4) (file_op_bytes m) (file_op_bytes m)
      (next_is refl refl) refl (file_op_has entry m h),
)
kind_known entry (Build held) h = (5, omega arith, tells_bytes name.Op 1 false (row_at name.Op 5) held (next_is refl refl) tt (or_true _ true refl) refl)
kind_known entry (Merge m) h = (
  6,
  omega arith,
  tells_message name.Op name.MergeOp 1 false (row_at name.Op 6) (merge_op_bytes m) (merge_op_bytes m)
      (next_is refl refl) refl (merge_op_has entry m h),
)
kind_known entry (Diff held) h = (7, omega arith, tells_bytes name.Op 1 false (row_at name.Op 7) held (next_is refl refl) tt (or_true _ true refl) refl)

abbrev op_told : Told name.Op Op (List Input × (Option Kind × Unit {0})) 0 false 7 true
op_told =
    told_both (told_messages name.Op name.Input 0 false (row_at name.Op 1) input_of input_bytes input_returns input_has
    (is_repeated (next_is refl refl) (next_is refl refl) refl refl refl) refl refl refl)
    (told_both (record {
      field = kind_choice;
      lean = lean_choice;
      tells = λ rs o good e. tells_member name.Op 1 7 kinds kind_of kind_record lean_kind_record rs o (omega arith) good
          (λ n xs a h. kind_known (joined xs) a (kind_from n xs a h)) e;
      few = λ rs o good e w. few_members kind_record o;
    })
    (told_end name.Op 7 true) refl refl) refl refl

unfoldable pub lean_op_bytes : Op → List ℕ
lean_op_bytes m = messages_field input_bytes 1 m.inputs ++ one_of_field lean_kind_bytes m.kind ++ m.extra

op_has : HasFrom name.Op op_message_of op_bytes lean_op_bytes
unfolding message_of op_in op_bytes lean_op_bytes
op_has = has_by op_told op_made op_message_of op_bytes lean_op_bytes (λ entry. refl) (λ a more. refl) (λ a more. refl)

lean_op_returns : Returns op_message_of lean_op_bytes
unfolding message_of op_in lean_op_bytes
lean_op_returns = returns_by op_told.lean op_made op_message_of lean_op_bytes refl (λ entry. refl) (λ a more. refl)

-- ---- entries

lean_is_read : (entry : List ℕ) (op : Op) → op_message_of entry ≡ Ok op → length (lean_op_bytes op) ≤ entry_limit → op_of (lean_op_bytes op) ≡ Ok op
unfolding op_of
lean_is_read entry op e short =
    let long : ltb entry_limit (length (lean_op_bytes op)) ≡ false = le-ltb _ _ short in
    rw long (lean_op_returns entry op e (omega (arith, short)))

-- an op that an entry is read as has canonical bytes that are fields by the table, and is read of them without empty keys too
pub entry_has : (entry : List ℕ) → EntryHasFields entry
unfolding op_of
entry_has entry op e =
    let read = entry_cases (ltb entry_limit (length entry)) (op_message_of entry) op e in
    let is = op_has entry op read in
    let from = is.from in
    let few = subst NoneOften (sym from.numbers) is.few in
    record {
      fields = from.fields;
      are = from.are;
      all_few = are_few from.fields few from.inner;
      few = are_few_without from.fields few from.inner;
      written = from.text;
      shorter = subst (λ (b : List ℕ). length (bytes_of (without_empty from.fields)) ≤ length b) (sym from.text) (shorter from.fields);
      read = subst (λ (b : List ℕ). length b ≤ entry_limit → op_of b ≡ Ok op) from.lean (lean_is_read entry op read);
    }
