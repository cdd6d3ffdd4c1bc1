use Rattle.std.proofs.Common.{List, take}
use Rattle.llb_asm.specs.DisassembledText.{Formed, AreFormedBy}
use Rattle.llb_asm.specs.PrintedPrefix.{HasBy}
use Rattle.llb_asm.proofs.print.entries_have_forms.Given as goal

abbrev pub invariant-loop-entry : goal.invariant-loop-entry
invariant-loop-entry l = (xs : List Formed) × AreFormedBy (HasBy l.fn.wording) (take l.entry-index l.entries) xs
