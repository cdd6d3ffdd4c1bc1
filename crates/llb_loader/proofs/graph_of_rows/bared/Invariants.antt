use Rattle.std.proofs.Common.{◌≡◌, take}
use Rattle.llb_loader.specs.RowsWithoutBytes.{bared}
use Rattle.llb_loader.proofs.graph_of_rows.bared.Given as goal

abbrev pub invariant-loop-row : goal.invariant-loop-row
invariant-loop-row l = l.bare.items ≡ bared (take l.row-index l.rows)
