use Rattle.std.proofs.Common.{ℕ, ◌<◌, slice_index_or}
use Rattle.llb_ops.specs.declared.merge.MergeInput.{MergeInput}
use Rattle.llb_loader.specs.Rules.{IsInput}
use Rattle.llb_loader.proofs.rules.all_merged.Given as goal

abbrev pub invariant-loop-input : goal.invariant-loop-input
invariant-loop-input l = (a : ℕ) (d : MergeInput) → a < l.input-index → IsInput l.count (slice_index_or l.merged a d).input
