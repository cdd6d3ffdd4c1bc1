use Rattle.llb_asm.proofs.ValueRoundTrip.{values_are_read_back}
use Rattle.llb_asm.proofs.OneLineValues.{values_are_solid}
use Rattle.llb_asm.proofs.values.values_are_read_back.Goals as goal

pub returns : goal.returns
returns c = record { read_back = values_are_read_back; solid = values_are_solid }
