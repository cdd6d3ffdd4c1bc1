use Rattle.std.proofs.Common.{◌≡◌, ◌↔◌, ℕ, ◌<◌, length}
use Rattle.std.specs.Prelude.{IsOk}
use Rattle.std.specs.List.{All}
use Rattle.llb_ops.specs.OpsWithinLimits.{IsWithinLimits}
use Rattle.llb_loader.specs.GraphOfRows.{op_at}
use Rattle.llb_loader.specs.WaitingRows.{IsMarked}
use Rattle.llb_findings.specs.Findings.{plan_for, IsFaultIn, op_or_none, reading_at, entry_at}
use Rattle.llb_findings.specs.Selections.{Adds, joined_below}
use Rattle.llb_findings.proofs.row_findings.add_unread.Given as goal

abbrev pub invariant-loop-k : goal.invariant-loop-k
invariant-loop-k l = record {
  adds : Adds (IsFaultIn (plan_for l.rows)) (joined_below l.k (entry_at l.rows)) l.fn.found.items l.found.items;
  len : length l.ops.items ≡ l.k;
  each : (j : ℕ) → j < l.k → op_at l.ops.items j ≡ op_or_none (reading_at l.rows j);
  within : All IsWithinLimits l.ops.items;
  marks : length l.read.items ≡ l.k;
  exact : (j : ℕ) → j < l.k → IsMarked l.read.items j ↔ IsOk (reading_at l.rows j);
}
