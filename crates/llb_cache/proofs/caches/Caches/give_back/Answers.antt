use Rattle.std.proofs.Common.{◌≡◌, List, false, ap, subst, sym, ◌∙◌}
use Rattle.std.specs.Map.{keys_of}
use Rattle.llb_cache.specs.declared.lease_needs.Instance.{Instance}
use Rattle.llb_cache.specs.Caches.{CachesValue, Leases, places_of}
use Rattle.llb_cache.specs.InstanceMarks.{IsMarked, Remarks, is_one_of}
use Rattle.llb_cache.proofs.ExactMarks.{back_marked}
use Rattle.llb_cache.proofs.caches.Caches.give_back.Goals as goal

pub invariant_of-self : goal.invariant_of-self
invariant_of-self c =
    let before : CachesValue = record { rows = c.self.inside.rows.entries.items; out = c.self.inside.out.items } in
    let lease = c.lease.inside.number in
    let marks = c.self.inside.marks.items in
    let new = c.unmark_all.new.marks.items in
    let places : c.places_at.result.now ≡ places_of before.out lease = c.places_at.ensures ∙ ap (λ (o : Leases). places_of o lease) c.deref.ensures.value in (
      subst (λ (o : Leases). IsMarked (record { rows = before.rows; out = o }) new) (sym c.take_back.ensures)
          (back_marked before lease marks new c.self.invariant.0
          (subst (λ (ps : List Instance). Remarks (keys_of before.rows) marks (keys_of before.rows) new (is_one_of ps) false) places c.unmark_all.ensures.marks)
          c.unmark_all.ensures.each),
      c.self.invariant.1,
    )
