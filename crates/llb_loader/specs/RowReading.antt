-- The ops that rows are read as, and the first row that can't be read as one.
use Rattle.std.specs.Prelude.{◌≡◌, ℕ, ◌<◌, List, length, Ok, Err, IsOk}
use Rattle.llb_ops.specs.declared.op.Op.{Op}
use Rattle.llb_ops.specs.declared.fault.OpFault.{OpFault}
use Rattle.llb_ops.specs.Messages.{op_of}
use Rattle.llb_loader.specs.declared.row.Row.{Row}
use Rattle.llb_loader.specs.declared.fault.LoadFault.{LoadFault}
use Rattle.llb_loader.specs.declared.fault.LoadFault.TheVariants.{Entry}
use Rattle.llb_loader.specs.RowLookup.{row_at}
use Rattle.llb_loader.specs.GraphOfRows.{op_at}

-- there is one op for each row, and row k is read as op k
pub record AreOps (rows : List Row) (ops : List Op) : Type 0 where
  pub len : length ops ≡ length rows
  pub each : (k : ℕ) → k < length rows → op_of (row_at rows k).bytes ≡ Ok (op_at ops k)

-- row k is the first row that can't be read as an op, and f is the fault of its bytes
pub record IsUnread (rows : List Row) (k : ℕ) (f : OpFault) : Type 0 where
  pub here : k < length rows
  pub fault : op_of (row_at rows k).bytes ≡ Err f
  pub before : (j : ℕ) → j < k → IsOk (op_of (row_at rows j).bytes)

-- e is `Entry` (82) with the number and the fault of the first row that can't be read as an op
abbrev pub RefusesRow : List Row → LoadFault → Type 0
RefusesRow rows e = (k : ℕ) × (f : OpFault) × (e ≡ Entry k f) × IsUnread rows k f
