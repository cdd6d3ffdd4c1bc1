use Rattle.std.proofs.Common.{ℕ, ◌+◌, ◌<◌, slice_index_or}
use Rattle.llb_ops.specs.declared.file_op.Action.{Action}
use Rattle.llb_loader.specs.Rules.{IsInput, TakesSecond}
use Rattle.llb_loader.proofs.file_rules.take_inputs.Given as goal

abbrev pub invariant-loop-place : goal.invariant-loop-place
invariant-loop-place l = record {
  first : (a : ℕ) (d : Action) → a < l.place → IsInput (l.count + a) (slice_index_or l.actions a d).input;
  second : (a : ℕ) (d : Action) → a < l.place → TakesSecond (l.count + a) (slice_index_or l.actions a d).kind (slice_index_or l.actions a d).secondary_input;
}
