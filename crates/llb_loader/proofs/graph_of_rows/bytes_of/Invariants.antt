use Rattle.std.proofs.Common.{◌≡◌, take}
use Rattle.llb_loader.specs.RowsWithoutBytes.{bytes_of}
use Rattle.llb_loader.proofs.graph_of_rows.bytes_of.Given as goal

abbrev pub invariant-loop-row : goal.invariant-loop-row
invariant-loop-row l = l.entries.items ≡ bytes_of (take l.row-index l.rows)
