use Rattle.std.proofs.Common.{◌≡◌, drop}
use Rattle.llb_glob.specs.ItemReading.{items_of}
use Rattle.llb_glob.specs.PartReading.{ahead}
use Rattle.llb_glob.proofs.part.Part.read.Given as goal

abbrev pub invariant-loop-letter : goal.invariant-loop-letter
invariant-loop-letter l = ahead l.reading (drop l.letter-index l.letter-items) ≡ items_of l.letter-items
