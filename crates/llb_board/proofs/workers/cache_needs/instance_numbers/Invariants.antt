use Rattle.std.proofs.Common.{◌≡◌, map, take}
use Rattle.llb_board.specs.CacheNeeds.{number_of}
use Rattle.llb_board.proofs.workers.cache_needs.instance_numbers.Given as goal

abbrev pub invariant-loop-place : goal.invariant-loop-place
invariant-loop-place l = l.numbers.items ≡ map number_of (take l.place-index l.places)
