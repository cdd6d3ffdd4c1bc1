use Rattle.std.proofs.Common.{take}
use Rattle.std.specs.List.{All}
use Rattle.llb_wire.specs.Spelling.{AreBytes}
use Rattle.llb_asm.proofs.laws.reads_back.Given as goal

abbrev pub invariant-loop-entry : goal.invariant-loop-entry
invariant-loop-entry l = All AreBytes (take l.entry-index l.entry-items)
