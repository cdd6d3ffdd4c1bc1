use Rattle.std.proofs.Common.{ℕ, ◌<◌}
use Rattle.llb_loader.specs.WaitingRows.{IsMarked}
use Rattle.llb_loader.proofs.numbering.first_stuck.Given as goal

abbrev pub invariant-loop-row : goal.invariant-loop-row
invariant-loop-row l = (k : ℕ) → k < l.row → IsMarked l.seen k → IsMarked l.done k
