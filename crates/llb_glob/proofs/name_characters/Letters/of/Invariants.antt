use Rattle.std.proofs.Common.{◌≡◌, take, length}
use Rattle.std.specs.Str.{chars}
use Rattle.llb_glob.proofs.name_characters.Letters.of.Given as goal

abbrev pub invariant-loop-letter : goal.invariant-loop-letter
invariant-loop-letter l = (length l.room ≡ 255) × (l.count ≡ length l.yielded) × (take l.count l.room ≡ take l.count (chars l.text))
