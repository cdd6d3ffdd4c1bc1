use Rattle.std.proofs.Common.{◌≡◌, drop, map}
use Rattle.llb_ops.specs.Table.{row_seen, row_named, by_name}
use Rattle.llb_ops.proofs.table.field_named.Given as goal

abbrev pub invariant-loop-row : goal.invariant-loop-row
invariant-loop-row l = row_named l.fn.message l.name ≡ by_name l.name (map row_seen (drop l.row-index l.row-items))
