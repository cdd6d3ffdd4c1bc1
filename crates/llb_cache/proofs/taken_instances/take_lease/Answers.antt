use Rattle.std.proofs.Common.{ap, ◌∙◌, arith}
use Rattle.std.proofs.Math.Facts.{Fits-of_lt}
use Rattle.llb_cache.specs.Caches.{Leases, free_lease}
use Rattle.llb_cache.proofs.InstanceHolders.{free_within}
use Rattle.llb_cache.proofs.taken_instances.take_lease.Goals as goal

pub overflow_cast-result : goal.overflow_cast-result
overflow_cast-result c =
    let within = free_within c.args.out.now.items in
    let same = c.free_lease-number.ensures ∙ ap (λ (o : Leases). free_lease o) c.deref.ensures.value in
    let short = c.requires.short in
    Fits-of_lt (omega (arith, within, same, short))
