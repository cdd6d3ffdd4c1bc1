use Rattle.std.proofs.Common.{◌≡◌, length}
use Rattle.llb_asm.specs.ItemLines.{without_end}
use Rattle.llb_asm.proofs.lines.without_end.Given as goal

abbrev pub invariant-loop-byte : goal.invariant-loop-byte
invariant-loop-byte l = without_end l.line ≡ without_end l.rest

abbrev pub decreases-loop-byte : goal.decreases-loop-byte
decreases-loop-byte l = length l.rest
