use Rattle.std.proofs.Common.{◌≡◌, ◌+◌, List, [], ◌∷◌, ◌++◌, Bool, take, sym, ap, subst, ◌∙◌}
use Rattle.std.proofs.lemmas.List.{take_more}
use Rattle.llb_cache.specs.declared.lease_needs.Instance.{Instance}
use Rattle.llb_cache.specs.LeasePreparation.{HasRoomFor, FitEach}
use Rattle.llb_cache.proofs.prepared_lease.rooms_for.Goals as goal

fit_more : (ps : List Instance) (rooms : List (List Bool)) (p : Instance) (m : List Bool) → FitEach ps rooms → HasRoomFor p m
    → FitEach (ps ++ p ∷ []) (rooms ++ m ∷ [])
fit_more [] [] p m each fits = (fits, tt)
fit_more [] (n ∷ rooms) p m each fits = absurd each
fit_more (q ∷ ps) [] p m each fits = absurd each
fit_more (q ∷ ps) (n ∷ rooms) p m each fits = (each.0, fit_more ps rooms p m each.1 fits)

pub loop-place-preserved : goal.loop-place-preserved
loop-place-preserved c =
    let ps = c.args.places.now in
    let i = c.loop-place.place-index in
    let p = c.place-item.result in
    let places : take i ps ++ p ∷ [] ≡ take (i + 1) ps
    = ap (λ (q : Instance). take i ps ++ q ∷ []) c.place-item.is ∙ sym (take_more ps i p c.loop-place-test.true) in
    subst (λ (s : List Instance × List (List Bool)). FitEach s.0 s.1) (λ j. (places j, (sym c.in_ok-push.ensures.items) j))
    (fit_more (take i ps) c.loop-place.rooms.items p _ c.loop-place.invariant
    (record { mark = c.in_ok-up_to.ensures.room; clear = c.in_ok-up_to.ensures.clear }))
