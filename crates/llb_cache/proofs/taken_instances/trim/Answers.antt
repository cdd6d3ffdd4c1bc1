use Rattle.std.proofs.Common.{take, sym, ap, ◌∙◌, arith}
use Rattle.llb_cache.specs.Caches.{Leases}
use Rattle.llb_cache.proofs.InstanceHolders.{trimmed_nothing, trimmed_at_some, trimmed_at_none}
use Rattle.llb_cache.proofs.taken_instances.trim.Goals as goal
use Rattle.llb_cache.proofs.taken_instances.trim.Goals.{then-is_some, else-is_some}

pub loop-i-init : goal.loop-i-init
loop-i-init c = record { within = omega arith; behind = trimmed_nothing }

pub loop-i-preserved : goal.loop-i-preserved
loop-i-preserved c =
    let out : Leases = c.deref-lease-items.result.now in
    elim c.if-is_some.branch [
      | then-is_some w ↦ record {
        within = omega arith;
        behind = trimmed_at_some out c.loop-i.i c.lease-item.result c.loop-i-test.true c.lease-item.is
            (sym c.is_some.ensures ∙ w.if-is_some.true) ∙ ap (λ k. take k out) (sym w.kept-is);
      }
      | else-is_some w ↦ record {
        within = omega arith;
        behind = trimmed_at_none out c.loop-i.i c.lease-item.result c.loop-i-test.true c.lease-item.is (sym c.is_some.ensures ∙ w.if-is_some.false)
            ∙ c.loop-i.invariant.behind ∙ ap (λ k. take k out) (sym w.kept-is);
      }
    ]
