use Rattle.std.proofs.Common.{◌≡◌, drop, map}
use Rattle.llb_ops.specs.Table.{row_seen, row_numbered, by_number}
use Rattle.llb_ops.proofs.table.field_numbered.Given as goal

abbrev pub invariant-loop-row : goal.invariant-loop-row
invariant-loop-row l = row_numbered l.fn.message l.number ≡ by_number l.number (map row_seen (drop l.row-index l.row-items))
