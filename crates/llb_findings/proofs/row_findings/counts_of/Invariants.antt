use Rattle.std.proofs.Common.{◌≡◌, ℕ, ◌<◌, length, get_or, None}
use Rattle.llb_loader.specs.GraphOfRows.{op_at}
use Rattle.llb_findings.specs.FindingSteps.{IsCount}
use Rattle.llb_findings.proofs.row_findings.counts_of.Given as goal

abbrev pub invariant-loop-k : goal.invariant-loop-k
invariant-loop-k l = record {
  len : length l.counts.items ≡ l.k;
  each : (j : ℕ) → j < l.k → IsCount (op_at l.ops j) (get_or l.counts.items j None);
}
