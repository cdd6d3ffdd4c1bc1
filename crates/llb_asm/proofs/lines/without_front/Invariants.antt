use Rattle.std.proofs.Common.{◌≡◌, length}
use Rattle.llb_asm.specs.ItemLines.{without_front}
use Rattle.llb_asm.proofs.lines.without_front.Given as goal

abbrev pub invariant-loop-byte : goal.invariant-loop-byte
invariant-loop-byte l = without_front l.line ≡ without_front l.rest

abbrev pub decreases-loop-byte : goal.decreases-loop-byte
decreases-loop-byte l = length l.rest
