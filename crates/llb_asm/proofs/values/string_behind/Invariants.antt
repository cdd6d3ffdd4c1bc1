use Rattle.std.proofs.Common.{◌≡◌, ◌++◌, length}
use Rattle.std.specs.Option.{option_map}
use Rattle.llb_asm.specs.FieldValueTexts.{string_from, closed}
use Rattle.llb_asm.proofs.values.string_behind.Given as goal

abbrev pub invariant-loop-byte : goal.invariant-loop-byte
invariant-loop-byte l = string_from closed l.text ≡ option_map (λ t. l.string.items ++ t) (string_from closed l.rest)

abbrev pub decreases-loop-byte : goal.decreases-loop-byte
decreases-loop-byte l = length l.rest
