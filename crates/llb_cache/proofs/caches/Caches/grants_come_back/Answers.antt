use Rattle.std.proofs.Common.{◌≡◌, subst}
use Rattle.llb_cache.specs.Caches.{CachesValue, granted}
use Rattle.llb_cache.specs.LeaseAdditions.{growths, taken_back}
use Rattle.llb_cache.proofs.RevertedLeases.{comes_back}
use Rattle.llb_cache.proofs.caches.Caches.grants_come_back.Goals as goal

pub returns : goal.returns
returns c needs differ =
    let v : CachesValue = record { rows = c.self.inside.rows.entries.items; out = c.self.inside.out.items } in
    subst (λ (v : CachesValue). taken_back (granted v needs).1 (granted v needs).0 (growths v needs) ≡ v) c.self.view_is
    (comes_back v needs c.self.invariant.0.caches.ends differ)
