use Rattle.std.proofs.Common.{List, None, Ok, true, cond, length, ap, find, map, subst, sym, ℕ, ◌<◌, ◌∙◌, ◌≡◌}
use Rattle.std.specs.Map.{keys_of}
use Rattle.llb_cache.specs.declared.lease_needs.Need.{Need}
use Rattle.llb_cache.specs.declared.lease_needs.Instance.{Instance}
use Rattle.llb_cache.specs.declared.taken_instances.Ready.{Ready}
use Rattle.llb_cache.specs.Caches.{CachesValue, Row, Leases, Taken, is_locked_and_held, leases, free_lease, with_lease, taken, made_all, granted, lease_of}
use Rattle.llb_cache.specs.Caches.{places_of, place_for}
use Rattle.llb_cache.specs.LeasePreparation.{shown}
use Rattle.llb_cache.specs.InstanceMarks.{IsMarked, marked, is_one_of}
use Rattle.llb_cache.proofs.PreparedLeases.{is_granted, not_refused, granted_has, places_shown}
use Rattle.llb_cache.proofs.ExactMarks.{lease_marked}
use Rattle.llb_cache.proofs.caches.Caches.lease_near.Goals as goal
use Rattle.llb_cache.proofs.caches.Caches.lease_near.Goals.{After-take_lease-number}

-- the caches at the call
abbrev before : After-take_lease-number → CachesValue
before c = record { rows = c.self.inside.rows.entries.items; out = c.self.inside.out.items }

-- and after it
abbrev behind : After-take_lease-number → CachesValue
behind c = record { rows = c.make_all.new.rows.entries.items; out = c.take_lease-number.new.out.items }

none_refused : (c : After-take_lease-number) → find (is_locked_and_held (before c).out) c.args.needs ≡ None
none_refused c =
    ap (λ (v : CachesValue). find (is_locked_and_held v.out) c.args.needs) c.self.view_is
    ∙ ap (λ (ns : List Need). find (is_locked_and_held c.args.self.now.out) ns) (sym c.into_vec.ensures) ∙ c.in_ok-needs.ensures.0

takes : (c : After-take_lease-number) → map shown c.in_ok-readies.readies.items ≡ taken (before c).out c.in_ok-needs.needs.items
takes c = c.in_ok-readies.ensures.takes ∙ ap (λ (v : CachesValue). taken v.out c.in_ok-needs.needs.items) (sym c.self.view_is)

same_needs : (c : After-take_lease-number) → c.in_ok-needs.needs.items ≡ c.args.needs
same_needs c = c.in_ok-needs.ensures.1 ∙ c.into_vec.ensures

all_granted : (c : After-take_lease-number) → granted (before c) c.args.needs ≡ (c.take_lease-number.result, behind c)
all_granted c =
    is_granted (before c) c.args.needs c.in_ok-needs.needs.items c.in_ok-readies.readies.items c.in_ok-places.places (behind c).rows
    (behind c).out c.take_lease-number.result (same_needs c) (takes c)
    (c.in_ok-places.ensures ∙ ap (λ (rs : List Ready). map (λ (r : Ready). r.place) rs) c.deref.ensures.value)
    (c.make_all.ensures.rows ∙ ap (λ (rows : List Row). made_all rows (map shown c.in_ok-readies.readies.items)) c.reserve.ensures.entries)
    (c.take_lease-number.ensures.out ∙ ap (λ (o : Leases). with_lease o (free_lease o) c.in_ok-places.places) c.reserve-3.ensures.items)
    (c.take_lease-number.ensures.number ∙ ap (λ (o : Leases). free_lease o) c.reserve-3.ensures.items)

few : (c : After-take_lease-number) → leases (before c).out < 65536
few c = subst (λ (v : CachesValue). leases v.out < 65536) (sym c.self.view_is) c.requires.few

-- the instances that are marked are those that the lease takes
placed : (c : After-take_lease-number)
    → map (λ (r : Ready). r.place) c.in_ok-readies.readies.items ≡ map (λ (t : Taken). t.0) (taken (before c).out c.args.needs)
placed c = places_shown c.in_ok-readies.readies.items
    ∙ ap (λ (ts : List Taken). map (λ (t : Taken). t.0) ts) (takes c ∙ ap (taken (before c).out) (same_needs c))

pub invariant_of-self-2 : goal.invariant_of-self-2
invariant_of-self-2 c =
    let new = c.make_all.new.marks.items in (
      subst (λ (g : ℕ × CachesValue). IsMarked g.1 new) (all_granted c)
          (lease_marked (before c) c.args.needs c.self.inside.marks.items new c.self.invariant.0 (few c) c.requires.differ (none_refused c)
          (λ (q : Instance). ap (λ (g : ℕ × CachesValue). marked (keys_of g.1.rows) new q) (all_granted c) ∙ c.make_all.ensures.marks q
          ∙ (λ i. cond (is_one_of (placed c i) q) true (marked (keys_of (c.reserve.ensures.entries i)) (c.reserve-2.ensures.items i) q)))
          (c.make_all.ensures.each ∙ ap (λ (g : ℕ × CachesValue). length g.1.rows) (sym (all_granted c)))),
      c.make_all.ensures.order,
    )

pub returns-clause-gives : goal.returns-clause-gives
returns-clause-gives c =
    ap (λ (v : CachesValue). lease_of v c.args.needs) (sym c.self.view_is) ∙ not_refused (before c) c.args.needs (none_refused c)
    ∙ ap (λ (g : ℕ × CachesValue). Ok g) (all_granted c)

pub returns-clause-has : goal.returns-clause-has
returns-clause-has c =
    ap (λ (g : ℕ × CachesValue). places_of g.1.out g.0) (sym (all_granted c)) ∙ granted_has (before c) c.args.needs
    ∙ ap (λ (v : CachesValue). map (λ (n : Need). place_for v.out n.key) c.args.needs) c.self.view_is
