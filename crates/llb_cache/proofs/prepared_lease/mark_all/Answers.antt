use Rattle.std.proofs.Common.{◌≡◌, true, cond, List, [], ◌∷◌, length, drop, rules, refl, sym, ap, subst, ◌∙◌}
use Rattle.std.specs.Map.{keys_of}
use Rattle.std.proofs.lemmas.List.{nil_from_length}
use Rattle.llb_cache.specs.declared.lease_needs.Instance.{Instance}
use Rattle.llb_cache.specs.LeasePreparation.{FitEach}
use Rattle.llb_cache.specs.InstanceMarks.{marked, is_one_of}
use Rattle.llb_cache.proofs.prepared_lease.mark_all.Goals as goal

none_left : (ps : List Instance) → FitEach ps [] → ps ≡ []
none_left [] each = refl
none_left (p ∷ ps) each = absurd each

pub returns-clause-marks : goal.returns-clause-marks
returns-clause-marks c p =
    let marks = marked (keys_of c.args.rows.now.entries.items) c.loop-room.marks.items p in
    let len : length c.loop-room.room-iterator.rest.items ≡ 0 = search rules in
    let gone = nil_from_length c.loop-room.room-iterator.rest.items len in
    let end : drop c.loop-room.i c.args.places.now ≡ [] = none_left (drop c.loop-room.i c.args.places.now)
    (subst (FitEach (drop c.loop-room.i c.args.places.now)) gone c.loop-room.invariant.fits) in
    sym (ap (λ (ps : List Instance). cond (is_one_of ps p) true marks) end) ∙ c.loop-room.invariant.marks p
