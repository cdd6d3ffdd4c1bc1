use Rattle.std.proofs.Common.{◌≡◌, ◌++◌, ◌∷◌, take}
use Rattle.std.specs.List.{flat_map}
use Rattle.llb_asm.specs.FieldValueTexts.{escaped}
use Rattle.llb_asm.proofs.values.push_string.Given as goal

abbrev pub invariant-loop-byte : goal.invariant-loop-byte
invariant-loop-byte l = l.out.items ≡ l.fn.out.items ++ (34 ∷ flat_map escaped (take l.byte-index l.string))
