-- The leases of workers after a claim, a step and an end: a claim leases if it has instances, a step keeps its lease, an end gives it back.
use Rattle.std.proofs.Common.{◌≡◌, ◌≢◌, ℕ, zero, suc, ◌+◌, ◌<◌, Bool, true, false, List, [], ◌∷◌, ◌++◌, length, Option, Some, None, inl}
use Rattle.std.proofs.Common.{inr, refl, sym, ap, subst, ◌∙◌, cond, arith}
use Rattle.std.specs.Prelude.{slice_get, slice_set, nat_lt}
use Rattle.std.proofs.lemmas.Bool.{ltb-false, ltb-true}
use Rattle.llb_cache.specs.Caches as cache
use Rattle.llb_cache.specs.Caches.{Leases, with_lease, free_lease, before, trimmed}
use Rattle.llb_cache.proofs.InstanceHolders.{held_by, holder, free_within, lease_cases}
use Rattle.llb_model.specs.Caches.{Instance, Has}
use Rattle.llb_model.specs.State.{Execution, WorkerStatus, Idle, Runs}
use Rattle.llb_model.specs.TwoCacheModels.{HoldsAs, AreLeased}
use Rattle.llb_model.proofs.Lists.{some_of, eq_or, got_set, get_set_same, get_set_other, length_set, get_within, got_within, get_middle}
use Rattle.llb_model.proofs.ClaimedInstances.{held_has}
use Rattle.llb_model.proofs.GaplessInstances.{holder_of}
use Rattle.llb_model.proofs.ConstructorEqualities.{lease_inside, some_apart}

-- ---- leases

-- the number of a new lease is not out
free_apart : (out : Leases) (a : ℕ) (qs : List Instance) → cache.Has out a qs → a ≢ free_lease out
free_apart [] a qs at e = cc
free_apart (None ∷ out) zero qs at e = cc
free_apart (None ∷ out) (suc a) qs at e = let first : free_lease (None ∷ out) ≡ 0 = refl in omega (arith, e, first)
free_apart (Some ps ∷ out) zero qs at e = let first : free_lease (Some ps ∷ out) ≡ 1 + free_lease out = refl in omega (arith, e, first)
free_apart (Some ps ∷ out) (suc a) qs at e =
    let first : free_lease (Some ps ∷ out) ≡ 1 + free_lease out = refl in
    free_apart out a qs at (omega (arith, e, first))

get_front : {A : Type 0} (xs ys : List A) (i : ℕ) → i < length xs → slice_get (xs ++ ys) i ≡ slice_get xs i
get_front [] ys i lt = absurd (omega (arith, lt))
get_front (x ∷ xs) ys zero lt = refl
get_front (x ∷ xs) ys (suc i) lt = get_front xs ys i (omega (arith, lt))

lease_there : (out : Leases) (ps : List Instance) → cache.Has (with_lease out (free_lease out) ps) (free_lease out) ps
lease_there out ps = go (nat_lt (free_lease out) (length out)) refl
  where
    go : (b : Bool) → nat_lt (free_lease out) (length out) ≡ b
        → cache.Has (cond b (slice_set out (free_lease out) (Some ps)) (out ++ Some ps ∷ [])) (free_lease out) ps
    go true is = let old = get_within out (free_lease out) (ltb-true (free_lease out) (length out) is) in
        get_set_same out (free_lease out) (Some ps) old.0 old.1
    go false is =
        let past = ltb-false (free_lease out) (length out) is in
        let within = free_within out in
        ap (slice_get (out ++ Some ps ∷ [])) (let e : free_lease out ≡ length out = omega (arith, past, within) in e) ∙ get_middle out (Some ps) []

lease_stays : (out : Leases) (ps : List Instance) (a : ℕ) (qs : List Instance) → cache.Has out a qs → cache.Has (with_lease out (free_lease out) ps) a qs
lease_stays out ps a qs at = go (nat_lt (free_lease out) (length out))
  where
    go : (b : Bool) → cache.Has (cond b (slice_set out (free_lease out) (Some ps)) (out ++ Some ps ∷ [])) a qs
    go true = get_set_other out (free_lease out) (Some ps) a (free_apart out a qs at) ∙ at
    go false = get_front out (Some ps ∷ []) a (got_within out a (Some qs) at) ∙ at

before_is : (r : Leases) (a : ℕ) (qs : List Instance) → cache.Has (before r) a qs → (b : ℕ) × (a ≡ suc b) × cache.Has r b qs
before_is [] a qs at = absurd cc
before_is (o ∷ r) zero qs at = absurd cc
before_is (o ∷ r) (suc a) qs at = (a, refl, at)

before_stays : (r : Leases) (b : ℕ) (qs : List Instance) → cache.Has r b qs → cache.Has (before r) (suc b) qs
before_stays [] b qs at = absurd cc
before_stays (o ∷ r) b qs at = at

trim_is : (out : Leases) (a : ℕ) (qs : List Instance) → cache.Has (trimmed out) a qs → cache.Has out a qs
unfolding trimmed
trim_is [] a qs at = at
trim_is (Some ps ∷ out) zero qs at = at
trim_is (Some ps ∷ out) (suc a) qs at = trim_is out a qs at
trim_is (None ∷ out) a qs at = let b = before_is (trimmed out) a qs at in ap (slice_get (None ∷ out)) b.1 ∙ trim_is out b.0 qs b.2

trim_stays : (out : Leases) (a : ℕ) (qs : List Instance) → cache.Has out a qs → cache.Has (trimmed out) a qs
unfolding trimmed
trim_stays [] a qs at = at
trim_stays (Some ps ∷ out) zero qs at = at
trim_stays (Some ps ∷ out) (suc a) qs at = trim_stays out a qs at
trim_stays (None ∷ out) zero qs at = absurd cc
trim_stays (None ∷ out) (suc a) qs at = before_stays (trimmed out) a qs (trim_stays out a qs at)

-- who has what after a lease that is given back
back_is : (out : Leases) (l a : ℕ) (qs : List Instance) → cache.Has (trimmed (slice_set out l None)) a qs → (a ≢ l) × cache.Has out a qs
back_is out l a qs at = elim (got_set out l None a (Some qs) (trim_is (slice_set out l None) a qs at)) [
  | inl h ↦ absurd (cc (h.1))
  | inr h ↦ h
]

back_stays : (out : Leases) (l a : ℕ) (qs : List Instance) → a ≢ l → cache.Has out a qs → cache.Has (trimmed (slice_set out l None)) a qs
back_stays out l a qs apart at = trim_stays (slice_set out l None) a qs (get_set_other out l None a apart ∙ at)

-- ---- workers

abbrev some_lease : ℕ → Option (Option ℕ)
some_lease l = Some (Some l)

module _ (out : Leases) (workers : List WorkerStatus) (ls : List (Option ℕ)) (are : AreLeased out workers ls) where
  -- the lease of a worker is out, of what it has
  leased_at : (w l : ℕ) (x : Execution) → slice_get ls w ≡ Some (Some l) → slice_get workers w ≡ Some (Runs x) → cache.Has out l x.places
  leased_at w l x at there =
      elim (are.has w x there) [
        | inl h ↦ subst (λ k. cache.Has out k x.places) (lease_inside (sym h.1 ∙ at)) h.2
        | inr h ↦ absurd (some_apart l (sym h.0 ∙ at))
      ]

  idle_apart : (w u : ℕ) (x : Execution) → slice_get workers w ≡ Some Idle → slice_get workers u ≡ Some (Runs x) → u ≢ w
  idle_apart w u x idle there same = let both : some_of Idle ≡ some_of (Runs x) = sym idle ∙ ap (slice_get workers) (sym same) ∙ there in cc

  -- no worker has the number of a new lease
  number_free : (u : ℕ) → slice_get ls u ≡ Some (Some (free_lease out)) → ⊥
  number_free u at =
      let r = are.runs u (free_lease out) at in
      free_apart out (free_lease out) r.0.places (leased_at u (free_lease out) r.0 at r.1) refl

-- where each running worker has its own lease, an instance is held by a lease exactly where a running worker has it
pub leased_holds_as : (out : Leases) (workers : List WorkerStatus) (ls : List (Option ℕ)) → AreLeased out workers ls → HoldsAs out workers
leased_holds_as out workers ls are = record {
  leased = λ p h.
      let r = holder_of workers p h in
      elim (are.has r.0 r.1 r.2) [
        | inl l ↦ held_by out l.0 r.1.places p l.2 r.3
        | inr l ↦ absurd (subst (λ ps. Has ps p) l.1 r.3)
      ];
  running = λ p is.
      let h = holder out p is in
      let w = are.whose h.0 h.1 h.2 in
      let r = are.runs w.0 h.0 w.1 in
      let same : h.1 ≡ r.0.places = places_same h.0 h.1 r.0.places h.2 (leased_at out workers ls are w.0 h.0 r.0 w.1 r.1) in
      held_has workers w.0 r.0 p r.1 (subst (λ ps. Has ps p) same h.3);
}
  where
    places_same : (l : ℕ) (ps qs : List Instance) → cache.Has out l ps → cache.Has out l qs → ps ≡ qs
    places_same l ps qs at here = let both : ◌≡◌ {A = Option (Option (List Instance))} (Some (Some ps)) (Some (Some qs)) = sym at ∙ here in cc

-- an idle worker that takes instances has a new lease of them, whose number no other worker has
pub claim_leases : (out : Leases) (workers : List WorkerStatus) (ls : List (Option ℕ)) (w : ℕ) (z : Execution) → AreLeased out workers ls
    → slice_get workers w ≡ Some Idle
    → AreLeased (with_lease out (free_lease out) z.places) (slice_set workers w (Runs z)) (slice_set ls w (Some (free_lease out)))
claim_leases out workers ls w z are idle = record {
  count = length_set ls w (Some l) ∙ are.count ∙ sym (length_set workers w (Runs z));
  has = λ u x at. elim (got_set workers w (Runs z) u (Runs x) at) [
    | inl h ↦
        let same : z ≡ x = cc (h.1) in
        inl (
          l,
          ap (slice_get (slice_set ls w (Some l))) h.0
              ∙ there,
          subst (λ (y : Execution). cache.Has (with_lease out l z.places) l y.places) same (lease_there out z.places),
        )
    | inr h ↦ elim (are.has u x h.1) [
      | inl old ↦ inl (old.0, get_set_other ls w (Some l) u h.0 ∙ old.1, lease_stays out z.places old.0 x.places old.2)
      | inr old ↦ inr (get_set_other ls w (Some l) u h.0 ∙ old.0, old.1)
    ]
  ];
  runs = λ u k at. elim (got_set ls w (Some l) u (Some k) at) [
    | inl h ↦ (z, ap (slice_get (slice_set workers w (Runs z))) h.0 ∙ get_set_same workers w (Runs z) Idle idle)
    | inr h ↦ let old = are.runs u k h.1 in (old.0, get_set_other workers w (Runs z) u h.0 ∙ old.1)
  ];
  once = λ u v k at here. elim (got_set ls w (Some l) u (Some k) at) [
    | inl h ↦ elim (got_set ls w (Some l) v (Some k) here) [
      | inl g ↦ h.0 ∙ sym g.0
      | inr g ↦ absurd (number_free out workers ls are v (g.1 ∙ ap some_lease (k_is k h.1)))
    ]
    | inr h ↦ elim (got_set ls w (Some l) v (Some k) here) [
      | inl g ↦ absurd (number_free out workers ls are u (h.1 ∙ ap some_lease (k_is k g.1)))
      | inr g ↦ are.once u v k h.1 g.1
    ]
  ];
  whose = λ a ps at. elim (lease_cases out z.places a ps at) [
    | inl h ↦ (w, there ∙ ap some_lease (sym h.0))
    | inr h ↦
        let old = are.whose a ps h in
        let r = are.runs old.0 a old.1 in
        (old.0, get_set_other ls w (Some l) old.0 (idle_apart out workers ls are w old.0 r.0 idle r.1) ∙ old.1)
  ];
}
  where
    l : ℕ
    l = free_lease out

    k_is : (k : ℕ) → ◌≡◌ {A = Option ℕ} (Some k) (Some l) → k ≡ l
    k_is k e = cc

    there : slice_get (slice_set ls w (Some l)) w ≡ Some (Some l)
    there = let old = get_within ls w (omega (arith, are.count, got_within workers w Idle idle)) in get_set_same ls w (Some l) old.0 old.1

-- the lease of another worker where that of one is set to none
without : (ls : List (Option ℕ)) (w u k : ℕ) → slice_get (slice_set ls w None) u ≡ Some (Some k) → (u ≢ w) × (slice_get ls u ≡ Some (Some k))
without ls w u k at = elim (got_set ls w None u (Some k) at) [
  | inl h ↦ absurd (cc (h.1))
  | inr h ↦ h
]

-- an idle worker that takes no instances needs no lease
pub claim_without : (out : Leases) (workers : List WorkerStatus) (ls : List (Option ℕ)) (w : ℕ) (z : Execution) → AreLeased out workers ls
    → slice_get workers w ≡ Some Idle → z.places ≡ []
    → AreLeased out (slice_set workers w (Runs z)) (slice_set ls w None)
claim_without out workers ls w z are idle none = record {
  count = length_set ls w None ∙ are.count ∙ sym (length_set workers w (Runs z));
  has = λ u x at. elim (got_set workers w (Runs z) u (Runs x) at) [
    | inl h ↦
        let same : z ≡ x = cc (h.1) in
        inr (ap (slice_get (slice_set ls w None)) h.0 ∙ there, ap (λ (t : Execution). t.places) (sym same) ∙ none)
    | inr h ↦ elim (are.has u x h.1) [
      | inl old ↦ inl (old.0, get_set_other ls w None u h.0 ∙ old.1, old.2)
      | inr old ↦ inr (get_set_other ls w None u h.0 ∙ old.0, old.1)
    ]
  ];
  runs = λ u k at.
      let h = without ls w u k at in
      let old = are.runs u k h.1 in
      (old.0, get_set_other workers w (Runs z) u h.0 ∙ old.1);
  once = λ u v k at here. are.once u v k (without ls w u k at).1 (without ls w v k here).1;
  whose = λ a ps at.
      let old = are.whose a ps at in
      let r = are.runs old.0 a old.1 in
      (old.0, get_set_other ls w None old.0 (idle_apart out workers ls are w old.0 r.0 idle r.1) ∙ old.1);
}
  where
    there : slice_get (slice_set ls w None) w ≡ Some None
    there = let old = get_within ls w (omega (arith, are.count, got_within workers w Idle idle)) in get_set_same ls w None old.0 old.1

-- a worker that goes on with the same instances goes on with the same lease
pub step_keeps_lease : (out : Leases) (workers : List WorkerStatus) (ls : List (Option ℕ)) (w : ℕ) (x z : Execution) → AreLeased out workers ls
    → slice_get workers w ≡ Some (Runs x) → z.places ≡ x.places
    → AreLeased out (slice_set workers w (Runs z)) ls
step_keeps_lease out workers ls w x z are at_w places = record {
  count = are.count ∙ sym (length_set workers w (Runs z));
  has = λ u y at. elim (got_set workers w (Runs z) u (Runs y) at) [
    | inl h ↦
        let same : z ≡ y = cc (h.1) in
        let stay : x.places ≡ y.places = sym places ∙ ap (λ (t : Execution). t.places) same in
        elim (are.has w x at_w) [
          | inl old ↦ inl (old.0, ap (slice_get ls) h.0 ∙ old.1, subst (cache.Has out old.0) stay old.2)
          | inr old ↦ inr (ap (slice_get ls) h.0 ∙ old.0, sym stay ∙ old.1)
        ]
    | inr h ↦ are.has u y h.1
  ];
  runs = λ u k at. elim (eq_or u w) [
    | inl h ↦ (z, ap (slice_get (slice_set workers w (Runs z))) h ∙ get_set_same workers w (Runs z) (Runs x) at_w)
    | inr h ↦ let old = are.runs u k at in (old.0, get_set_other workers w (Runs z) u h ∙ old.1)
  ];
  once = are.once;
  whose = are.whose;
}

-- the lease that a worker releases was its own, so the others keep theirs
pub end_gives_back : (out : Leases) (workers : List WorkerStatus) (ls : List (Option ℕ)) (w l : ℕ) → AreLeased out workers ls → slice_get ls w ≡ Some (Some l)
    → AreLeased (trimmed (slice_set out l None)) (slice_set workers w Idle) (slice_set ls w None)
end_gives_back out workers ls w l are at_w = record {
  count = length_set ls w None ∙ are.count ∙ sym (length_set workers w Idle);
  has = λ u x at. elim (got_set workers w Idle u (Runs x) at) [
    | inl h ↦ absurd (cc (h.1))
    | inr h ↦ elim (are.has u x h.1) [
      | inl old ↦ inl (
        old.0,
        get_set_other ls w None u h.0
            ∙ old.1,
        back_stays out l old.0 x.places (λ same. h.0 (are.once u w l (old.1 ∙ ap some_lease same) at_w)) old.2,
      )
      | inr old ↦ inr (get_set_other ls w None u h.0 ∙ old.0, old.1)
    ]
  ];
  runs = λ u k at. elim (got_set ls w None u (Some k) at) [
    | inl h ↦ absurd (cc (h.1))
    | inr h ↦ let old = are.runs u k h.1 in (old.0, get_set_other workers w Idle u h.0 ∙ old.1)
  ];
  once = λ u v k at here. elim (got_set ls w None u (Some k) at) [
    | inl h ↦ absurd (cc (h.1))
    | inr h ↦ elim (got_set ls w None v (Some k) here) [ inl g ↦ absurd (cc (g.1)) | inr g ↦ are.once u v k h.1 g.1 ]
  ];
  whose = λ a ps at.
      let b = back_is out l a ps at in
      let old = are.whose a ps b.1 in
      (old.0, get_set_other ls w None old.0 (λ same. b.0 (lease_inside (sym old.1 ∙ ap (slice_get ls) same ∙ at_w))) ∙ old.1);
}

-- a worker without a lease leaves all leases as they are when it ends what it runs
pub end_without : (out : Leases) (workers : List WorkerStatus) (ls : List (Option ℕ)) (w : ℕ) → AreLeased out workers ls → slice_get ls w ≡ Some None
    → AreLeased out (slice_set workers w Idle) (slice_set ls w None)
end_without out workers ls w are at_w = record {
  count = length_set ls w None ∙ are.count ∙ sym (length_set workers w Idle);
  has = λ u x at. elim (got_set workers w Idle u (Runs x) at) [
    | inl h ↦ absurd (cc (h.1))
    | inr h ↦ elim (are.has u x h.1) [
      | inl old ↦ inl (old.0, get_set_other ls w None u h.0 ∙ old.1, old.2)
      | inr old ↦ inr (get_set_other ls w None u h.0 ∙ old.0, old.1)
    ]
  ];
  runs = λ u k at.
      let h = without ls w u k at in
      let old = are.runs u k h.1 in
      (old.0, get_set_other workers w Idle u h.0 ∙ old.1);
  once = λ u v k at here. are.once u v k (without ls w u k at).1 (without ls w v k here).1;
  whose = λ a ps at.
      let old = are.whose a ps at in
      (old.0, get_set_other ls w None old.0 (λ same. some_apart a (sym at_w ∙ ap (slice_get ls) (sym same) ∙ old.1)) ∙ old.1);
}
