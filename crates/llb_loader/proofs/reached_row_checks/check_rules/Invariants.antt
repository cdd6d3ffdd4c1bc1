use Rattle.std.proofs.Common.{ℕ, ◌<◌}
use Rattle.llb_loader.specs.WaitingRows.{IsMarked}
use Rattle.llb_loader.specs.GraphOfRows.{op_at}
use Rattle.llb_loader.specs.Rules.{MeetsRules}
use Rattle.llb_loader.proofs.reached_row_checks.check_rules.Given as goal

abbrev pub invariant-loop-k : goal.invariant-loop-k
invariant-loop-k l = (j : ℕ) → j < l.k → IsMarked l.seen j → MeetsRules (op_at l.ops j)
