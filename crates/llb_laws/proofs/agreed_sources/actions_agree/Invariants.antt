use Rattle.std.proofs.Common.{◌≡◌, ◌<◌, ℕ, Some, slice_get}
use Rattle.llb_ops.specs.declared.file_op.Action.{Action}
use Rattle.llb_laws.specs.CopiedPaths.{ReadsAlike}
use Rattle.llb_laws.proofs.agreed_sources.actions_agree.Given as goal

abbrev pub invariant-loop-action : goal.invariant-loop-action
invariant-loop-action l =
    (k : ℕ) (a : Action) → k < l.action-index → slice_get l.actions k ≡ Some a → ReadsAlike l.number l.first l.second a
