use Rattle.std.proofs.Common.{length}
use Rattle.llb_asm.proofs.open_op.+has_room.Given as goal

abbrev pub decreases-has_room : goal.decreases-has_room
decreases-has_room l = length l.below.now
