use Rattle.std.proofs.Common.{◌≡◌, ℕ, refl}
use Rattle.llb_ops.specs.declared.fault.OpFault.{OpFault}
use Rattle.llb_ops.specs.declared.fault.OpFault.TheVariants as op
use Rattle.llb_loader.specs.declared.fault.LoadFault.TheVariants.{Entry}
use Rattle.llb_loader.specs.Faults.{row_fault}
use Rattle.llb_loader.proofs.op_reading.at_row.Goals as goal

other_fault : (k : ℕ) (f : OpFault) → ¬ (f ≡ op.Memory) → Entry k f ≡ row_fault k f
other_fault k (op.Wire f) n = refl
other_fault k op.WrongWireType n = refl
other_fault k op.NotUtf8 n = refl
other_fault k op.OverLimit n = refl
other_fault k op.Memory n = absurd (n refl)

pub returns-in_default : goal.returns-in_default
returns-in_default c = other_fault c.args.k c.args.fault c.in_default.not-Memory
