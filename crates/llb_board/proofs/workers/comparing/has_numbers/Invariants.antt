use Rattle.std.proofs.Common.{◌≡◌, map, take}
use Rattle.llb_board.specs.CacheNeeds.{number_of}
use Rattle.llb_board.proofs.workers.comparing.has_numbers.Given as goal

abbrev pub invariant-loop-i : goal.invariant-loop-i
invariant-loop-i l = take l.i l.numbers ≡ map number_of (take l.i l.places)
