use Rattle.std.proofs.Common.{ℕ, ◌<◌}
use Rattle.llb_loader.specs.RowLookup.{row_at}
use Rattle.llb_findings.specs.FindingSteps.{Differ}
use Rattle.llb_findings.proofs.row_findings.collides.Given as goal

abbrev pub invariant-loop-j : goal.invariant-loop-j
invariant-loop-j l = (j : ℕ) → j < l.j → ¬ Differ (row_at l.rows j) (row_at l.rows l.k)
