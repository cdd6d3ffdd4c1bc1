use Rattle.std.proofs.Common.{◌≡◌, drop, is_ok}
use Rattle.llb_glob.specs.Class.{none_yet}
use Rattle.llb_glob.specs.ItemReading.{items_from, items_of}
use Rattle.llb_glob.proofs.part.is_part.Given as goal

abbrev pub invariant-loop-letter : goal.invariant-loop-letter
invariant-loop-letter l = is_ok (items_from (drop l.letter-index l.letter-items) l.cursor none_yet) ≡ is_ok (items_of l.letter-items)
