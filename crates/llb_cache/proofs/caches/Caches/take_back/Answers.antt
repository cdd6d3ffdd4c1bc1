use Rattle.std.proofs.Common.{◌≡◌, ℕ, List, false, sym, ap, subst, ◌∙◌}
use Rattle.std.specs.Map.{keys_of}
use Rattle.llb_cache.specs.declared.lease_needs.Instance.{Instance}
use Rattle.llb_cache.specs.Caches.{CachesValue, Row, Leases, AreThere, places_of, given_back}
use Rattle.llb_cache.specs.LeaseAdditions.{unmade, taken_back}
use Rattle.llb_cache.specs.InstanceMarks.{IsMarked, Remarks, is_one_of}
use Rattle.llb_cache.proofs.InvariantAfterUndo.{unmade_marked}
use Rattle.llb_cache.proofs.ExactMarks.{back_marked}
use Rattle.llb_cache.proofs.RemovedAdditions.{fewer_rows}
use Rattle.llb_cache.proofs.caches.Caches.take_back.Goals as goal

pub invariant_of-self : goal.invariant_of-self
invariant_of-self c =
    let before : CachesValue = record { rows = c.self.inside.rows.entries.items; out = c.self.inside.out.items } in
    let lease = c.lease.inside.number in
    let marks = c.self.inside.marks.items in
    let freed = c.unmark_all.new.marks.items in
    let rows = c.unmake_all.new.rows.entries.items in
    let new = c.unmake_all.new.marks.items in
    let places : c.places_at.result.now ≡ places_of before.out lease = c.places_at.ensures ∙ ap (λ (o : Leases). places_of o lease) c.deref.ensures.value in
    let again : c.places_at-2.result.now ≡ places_of before.out lease
    = c.places_at-2.ensures ∙ ap (λ (o : Leases). places_of o lease) c.deref-2.ensures.value in
    let given : IsMarked (given_back before lease) freed = back_marked before lease marks freed c.self.invariant.0
    (subst (λ (ps : List Instance). Remarks (keys_of before.rows) marks (keys_of before.rows) freed (is_one_of ps) false) places c.unmark_all.ensures.marks)
    c.unmark_all.ensures.each in
    let are : rows ≡ unmade before.rows (places_of before.out lease) c.args.growths.now
    = c.unmake_all.ensures.rows ∙ ap (λ (ps : List Instance). unmade before.rows ps c.args.growths.now) again in
    let there : AreThere rows (given_back before lease).out = subst (λ (rs : List Row). AreThere rs (given_back before lease).out) (sym are)
    (subst (λ (n : ℕ). AreThere (taken_back before n c.args.growths.now).rows (taken_back before n c.args.growths.now).out) (sym c.lease.view_is)
    (subst (λ (v : CachesValue). AreThere (taken_back v c.args.lease c.args.growths.now).rows (taken_back v c.args.lease c.args.growths.now).out)
    (sym c.self.view_is) c.requires.there)) in (
      subst (λ (o : Leases). IsMarked (record { rows = rows; out = o }) new) (sym c.take_back.ensures)
          (unmade_marked (given_back before lease) rows freed new given there
          (fewer_rows before.rows rows (places_of before.out lease) c.args.growths.now are)
          c.unmake_all.ensures.each c.unmake_all.ensures.marks),
      c.unmake_all.ensures.order,
    )
