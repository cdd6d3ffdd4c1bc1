use Rattle.std.proofs.Common.{◌≡◌, drop}
use Rattle.std.specs.List.{find}
use Rattle.llb_cache.specs.Caches.{is_locked_and_held}
use Rattle.llb_cache.proofs.caches.Caches.first_held.Given as goal

abbrev pub invariant-loop-i : goal.invariant-loop-i
invariant-loop-i l = find (is_locked_and_held l.self.out) (drop l.i l.needs) ≡ find (is_locked_and_held l.self.out) l.needs
