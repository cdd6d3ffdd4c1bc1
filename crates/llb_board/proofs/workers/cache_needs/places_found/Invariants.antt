use Rattle.std.proofs.Common.{◌≡◌, map, take}
use Rattle.llb_board.specs.CacheNeeds.{place_found}
use Rattle.llb_board.proofs.workers.cache_needs.places_found.Given as goal

abbrev pub invariant-loop-want : goal.invariant-loop-want
invariant-loop-want l = l.places.items ≡ map place_found (take l.want-index l.wanted)
