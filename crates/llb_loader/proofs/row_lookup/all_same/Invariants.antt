use Rattle.std.proofs.Common.{◌≡◌, ℕ, ◌<◌}
use Rattle.llb_loader.specs.RowLookup.{row_at}
use Rattle.llb_loader.specs.RowsWithoutBytes.{with_bytes}
use Rattle.llb_loader.proofs.row_lookup.all_same.Given as goal

abbrev pub invariant-loop-k : goal.invariant-loop-k
invariant-loop-k l = (j : ℕ) → j < l.k → row_at (with_bytes l.rows l.entries) j ≡ row_at (with_bytes l.rows l.entries) 0
