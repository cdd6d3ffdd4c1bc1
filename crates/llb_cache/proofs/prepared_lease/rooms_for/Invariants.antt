use Rattle.std.proofs.Common.{take}
use Rattle.llb_cache.specs.LeasePreparation.{FitEach}
use Rattle.llb_cache.proofs.prepared_lease.rooms_for.Given as goal

abbrev pub invariant-loop-place : goal.invariant-loop-place
invariant-loop-place l = FitEach (take l.place-index l.places) l.rooms.items
