use Rattle.std.proofs.Common.{ℕ, ◌<◌, length}
use Rattle.llb_loader.specs.WaitingRows.{IsMarked}
use Rattle.llb_loader.specs.GraphOfRows.{op_at}
use Rattle.llb_loader.specs.ReachedRowChecks.{NamesAll}
use Rattle.llb_loader.proofs.reached_row_checks.check_names.Given as goal

abbrev pub invariant-loop-k : goal.invariant-loop-k
invariant-loop-k l = (j : ℕ) → j < l.k → IsMarked l.seen j → NamesAll l.rows l.terminal (op_at l.ops j) (length (op_at l.ops j).inputs)
