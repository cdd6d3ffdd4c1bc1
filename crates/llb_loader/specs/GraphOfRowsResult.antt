-- What linking the rows returns.
use Rattle.std.specs.Prelude.{List}
use Rattle.llb_ops.specs.declared.op.Op.{Op}
use Rattle.llb_loader.specs.declared.row.Row.{Row}
use Rattle.llb_loader.specs.declared.fault.LoadFault.{LoadFault}
use Rattle.llb_loader.specs.Graph.{Numbered}
use Rattle.llb_loader.specs.GraphOfRows.{Refused, GraphOf}
use Rattle.llb_loader.specs.RowReading.{AreOps, RefusesRow}
use Rattle.std.specs.Prelude.{◌⊎◌}

-- All rows can be read as ops, and the rows with these ops make the graph g.
abbrev pub IsGraphOf : List Row → Numbered → Type 0
IsGraphOf rows g = (ops : List Op) × AreOps rows ops × GraphOf rows ops g

-- e is the refusal of a row that can't be read as an op; or all rows are read as ops, and e is the refusal of the rows with these ops
abbrev pub IsRefusalOf : List Row → LoadFault → Type 0
IsRefusalOf rows e = RefusesRow rows e ⊎ ((ops : List Op) × AreOps rows ops × Refused rows ops e)
