use Rattle.std.proofs.Common.{◌≡◌, map, take}
use Rattle.llb_cache.proofs.taken_instances.places_for.Given as goal

abbrev pub invariant-loop-ready : goal.invariant-loop-ready
invariant-loop-ready l = l.places.items ≡ map (λ r. r.place) (take l.ready-index l.readies)
