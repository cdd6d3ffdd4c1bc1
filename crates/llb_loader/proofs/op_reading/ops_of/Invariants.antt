use Rattle.std.proofs.Common.{◌≡◌, ℕ, ◌<◌, ◌≤◌, length, Ok, get_or, []}
use Rattle.std.specs.List.{All}
use Rattle.llb_ops.specs.Messages.{op_of}
use Rattle.llb_ops.specs.OpsWithinLimits.{IsWithinLimits}
use Rattle.llb_loader.specs.GraphOfRows.{op_at}
use Rattle.llb_loader.proofs.op_reading.ops_of.Given as goal

abbrev pub invariant-loop-k : goal.invariant-loop-k
invariant-loop-k l = record {
  count : length l.entries.items ≡ length l.fn.entries.items;
  len : length l.ops.items ≡ l.k;
  each : (j : ℕ) → j < l.k → op_of (get_or l.fn.entries.items j []) ≡ Ok (op_at l.ops.items j);
  within : All IsWithinLimits l.ops.items;
  kept : (i : ℕ) → l.k ≤ i → get_or l.entries.items i [] ≡ get_or l.fn.entries.items i [];
}
