use Rattle.std.proofs.Common.{◌≡◌, List, true, sym, ap, subst, ◌∙◌}
use Rattle.std.specs.Map.{keys_of}
use Rattle.llb_cache.specs.declared.lease_needs.Instance.{Instance}
use Rattle.llb_cache.specs.Caches.{CachesValue, Leases, free_lease, with_lease}
use Rattle.llb_cache.specs.LeaseAdditions.{CanLend}
use Rattle.llb_cache.specs.InstanceMarks.{IsMarked, Remarks, is_one_of}
use Rattle.llb_cache.proofs.InvariantAfterUndo.{again_marked}
use Rattle.llb_cache.proofs.caches.Caches.lend_again.Goals as goal

pub invariant_of-self : goal.invariant_of-self
invariant_of-self c =
    let before : CachesValue = record { rows = c.self.inside.rows.entries.items; out = c.self.inside.out.items } in
    let marks = c.self.inside.marks.items in
    let new = c.mark_all.new.marks.items in
    let places : c.as_slice.result.now ≡ c.args.lent.places = c.as_slice.ensures ∙ c.into_parts-places.ensures.places in
    let same = c.into_parts-places.ensures.places in
    let out = c.put_lease-number.ensures.out ∙ ap (λ (ps : List Instance). with_lease before.out (free_lease before.out) ps) same in (
      subst (λ (o : Leases). IsMarked (record { rows = before.rows; out = o }) new) (sym out)
          (again_marked before c.args.lent marks new c.self.invariant.0 (subst (λ (v : CachesValue). CanLend v c.args.lent) (sym c.self.view_is) c.requires)
          (subst (λ (ps : List Instance). Remarks (keys_of before.rows) marks (keys_of before.rows) new (is_one_of ps) true) places c.mark_all.ensures.marks)
          c.mark_all.ensures.each),
      c.self.invariant.1,
    )
