-- A merge that was read is read again of its canonical bytes.
use Rattle.std.proofs.Common.{ℕ, ℤ, List, refl}
use Rattle.llb_ops.specs.declared.merge.MergeOp.{MergeOp}
use Rattle.llb_ops.specs.declared.merge.MergeInput.{MergeInput}
use Rattle.llb_ops.specs.Records.{int64, message_of}
use Rattle.llb_ops.specs.Messages.{merge_input_shape, merge_input_of, merge_op_shape, merge_op_of, merge_input_in, merge_op_in}
use Rattle.llb_ops.specs.Writing.{merge_input_bytes, merge_op_bytes}
use Rattle.llb_ops.proofs.NumberRoundTrip.{from_signed, int64_recodes}
use Rattle.llb_ops.proofs.FieldRoundTrip.{FieldOf, Returns, end, both, returns_by}
use Rattle.llb_ops.proofs.FieldKindRoundTrips.{numeric, messages}

abbrev merge_input_fields : FieldOf merge_input_shape MergeInput (ℤ × Unit {0})
merge_input_fields =
    both (numeric 1 int64 from_signed int64_recodes refl refl) end refl

abbrev pub merge_input_made : ℤ × Unit {0} → List ℕ → MergeInput
merge_input_made a extra = record { input = a.0; extra = extra }

-- an input of a merge that was read is read again of its canonical bytes
pub merge_input_returns : Returns merge_input_of merge_input_bytes
unfolding message_of merge_input_in merge_input_bytes
merge_input_returns = returns_by merge_input_fields merge_input_made merge_input_of merge_input_bytes refl (λ bytes. refl) (λ a extra. refl)

abbrev merge_op_fields : FieldOf merge_op_shape MergeOp (List MergeInput × Unit {0})
merge_op_fields =
    both (messages 1 merge_input_of merge_input_bytes merge_input_returns refl refl) end refl

abbrev pub merge_op_made : List MergeInput × Unit {0} → List ℕ → MergeOp
merge_op_made a extra = record { inputs = a.0; extra = extra }

-- a merge that was read is read again of its canonical bytes
pub merge_op_returns : Returns merge_op_of merge_op_bytes
unfolding message_of merge_op_in merge_op_bytes
merge_op_returns = returns_by merge_op_fields merge_op_made merge_op_of merge_op_bytes refl (λ bytes. refl) (λ a extra. refl)
