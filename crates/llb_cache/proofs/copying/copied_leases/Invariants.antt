use Rattle.std.proofs.Common.{◌≡◌, take}
use Rattle.llb_cache.proofs.copying.copied_leases.Given as goal

abbrev pub invariant-loop-lease : goal.invariant-loop-lease
invariant-loop-lease l = l.copies.items ≡ take l.lease-index l.lease-items
