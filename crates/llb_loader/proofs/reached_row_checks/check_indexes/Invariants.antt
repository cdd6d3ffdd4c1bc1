use Rattle.std.proofs.Common.{ℕ, ◌<◌}
use Rattle.llb_loader.specs.ReachedRows.{lists, inputs}
use Rattle.llb_loader.specs.GraphOfRows.{op_at}
use Rattle.llb_loader.specs.ReachedRowChecks.{FitsAll, asked_of}
use Rattle.llb_loader.proofs.reached_row_checks.check_indexes.Given as goal

abbrev pub invariant-loop-k : goal.invariant-loop-k
invariant-loop-k l = (j : ℕ) → j < l.k → FitsAll l.counts (inputs (lists l.links) j) (op_at l.ops j) (asked_of l.ops l.seen l.terminal j)
