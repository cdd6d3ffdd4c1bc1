use Rattle.std.proofs.Common.{◌≡◌, ◌≤◌, take}
use Rattle.llb_cache.specs.Caches.{trimmed}
use Rattle.llb_cache.proofs.taken_instances.trim.Given as goal

abbrev pub invariant-loop-i : goal.invariant-loop-i
invariant-loop-i l = record { within : l.kept ≤ l.i; behind : trimmed (take l.i l.lease-items) ≡ take l.kept l.lease-items }
