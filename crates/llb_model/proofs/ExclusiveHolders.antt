-- No two running workers hold one instance exclusively.
use Rattle.std.proofs.Common.{◌≡◌, ℕ, List, Option, Some, inl, inr, refl, sym, ap, subst, ◌∙◌}
use Rattle.std.specs.Prelude.{slice_get, slice_set, replicate}
use Rattle.llb_model.specs.Caches.{Instance, Has, IsExclusive}
use Rattle.llb_model.specs.Program.{Build, Left, needs_of, step_on}
use Rattle.llb_model.specs.State.{Execution, WorkerStatus, Idle, Runs, State, opening, work_of, held, IsFree, begin_at}
use Rattle.llb_events.specs.declared.event.Event.{Event}
use Rattle.llb_events.specs.declared.event.Event.TheVariants.{Claim, Step, Settle, Cancel}
use Rattle.llb_model.specs.Table.{execution_on, with_step, table}
use Rattle.llb_model.specs.WholeRunLaws.{IsReached, IsHeldOnce}
use Rattle.llb_model.proofs.Lists.{got_set, got_replicate}
use Rattle.llb_model.proofs.ClaimedInstances.{places_free, free_from}
use Rattle.llb_model.proofs.GrantedEvents.{Answer, IsClaim, claim_places, claim_is, step_is, settle_is, cancel_is}
use Rattle.llb_model.proofs.RunExtension.{run_keeps}

-- no two workers have one of the places that count
pub record IsSeparate (E : Instance → Type 0) (ws : List WorkerStatus) : Type 0 where
  pub once : (w u : ℕ) (x y : Execution) (p : Instance) → slice_get ws w ≡ Some (Runs x) → slice_get ws u ≡ Some (Runs y) → Has x.places p
      → Has y.places p → E p → w ≡ u

unfoldable pub alone : Instance → Type 0
alone p = IsExclusive p.key.mode

abbrev some_at : WorkerStatus → Option WorkerStatus
some_at a = Some a

-- idle workers have no places, so no two of them have one
pub opening_separate : (E : Instance → Type 0) (n : ℕ) → IsSeparate E (replicate n Idle)
opening_separate E n = record { once = λ w u x y p there. absurd (let h : Runs x ≡ Idle = got_replicate n Idle w (Runs x) there in cc) }

-- a worker that takes places which are free, of those that count
pub taken_separate : (E : Instance → Type 0) (ws : List WorkerStatus) (w : ℕ) (z : Execution) → ((p : Instance) → Has z.places p → E p → IsFree ws p)
    → IsSeparate E ws → IsSeparate E (slice_set ws w (Runs z))
taken_separate E ws w z free sep = record {
  once = λ a b x y p at_a at_b has_a has_b counts. elim (got_set ws w (Runs z) a (Runs x) at_a) [
    | inl h ↦ elim (got_set ws w (Runs z) b (Runs y) at_b) [
      | inl k ↦ h.0 ∙ sym k.0
      | inr k ↦ absurd (free p (subst (λ (t : Execution). Has t.places p) (same_run x h.1) has_a) counts b y k.1 has_b)
    ]
    | inr h ↦ elim (got_set ws w (Runs z) b (Runs y) at_b) [
      | inl k ↦ absurd (free p (subst (λ (t : Execution). Has t.places p) (same_run y k.1) has_b) counts a x h.1 has_a)
      | inr k ↦ sep.once a b x y p h.1 k.1 has_a has_b counts
    ]
  ];
}
  where
    same_run : (x : Execution) → Runs x ≡ Runs z → x ≡ z
    same_run x e = cc

-- workers of which each that runs ran on the same places before
pub fewer_separate : (E : Instance → Type 0) (ws vs : List WorkerStatus)
    → ((w : ℕ) (x : Execution) → slice_get vs w ≡ Some (Runs x) → (y : Execution) × (slice_get ws w ≡ Some (Runs y)) × (y.places ≡ x.places))
    → IsSeparate E ws → IsSeparate E vs
fewer_separate E ws vs back sep = record {
  once = λ a b x y p at_a at_b has_a has_b counts.
      let m = back a x at_a in
      let n = back b y at_b in
      sep.once a b m.0 n.0 p m.1 n.1 (subst (λ ps. Has ps p) (sym m.2) has_a) (subst (λ ps. Has ps p) (sym n.2) has_b) counts;
}

-- what runs after a step of a worker ran before it, on the same places
pub stepped_back : (ws : List WorkerStatus) (w : ℕ) (x : Execution) (left : Left) → slice_get ws w ≡ Some (Runs x)
    → (u : ℕ) (y : Execution) → slice_get (slice_set ws w (Runs (with_step x left))) u ≡ Some (Runs y)
    → (z : Execution) × (slice_get ws u ≡ Some (Runs z)) × (z.places ≡ y.places)
stepped_back ws w x left there u y at_u = elim (got_set ws w (Runs (with_step x left)) u (Runs y) at_u) [
  | inl h ↦
      let same : y ≡ with_step x left = inside h.1 in
      (x, ap (slice_get ws) h.0 ∙ there, sym (ap (λ (z : Execution). z.places) same))
  | inr h ↦ (y, h.1, refl)
]
  where
    inside : {a b : Execution} → Runs a ≡ Runs b → a ≡ b
    inside e = cc

-- what runs after the end of what a worker ran did run before it, on the same places
pub ended_back : (ws : List WorkerStatus) (w u : ℕ) (y : Execution) → slice_get (slice_set ws w Idle) u ≡ Some (Runs y)
    → (z : Execution) × (slice_get ws u ≡ Some (Runs z)) × (z.places ≡ y.places)
ended_back ws w u y at_u = elim (got_set ws w Idle u (Runs y) at_u) [ inl h ↦ absurd (cc (h.1)) | inr h ↦ (y, h.1, refl) ]

-- what a claim takes is free, of the places that count
abbrev pub TakesFree : (Instance → Type 0) → Build → State → Answer → Event → Type 0
TakesFree E b s a (Claim w v) = (c : IsClaim b s w v a) (p : Instance) → Has (claim_places s c.start) p → E p → IsFree s.workers p
TakesFree E b s a (Step w) = Unit {0}
TakesFree E b s a (Settle w) = Unit {0}
TakesFree E b s a (Cancel w) = Unit {0}

-- an event keeps workers apart, where what a claim takes is free
pub event_separate : (E : Instance → Type 0) (b : Build) (s : State) (e : Event) (a : Answer) → IsSeparate E s.workers → TakesFree E b s a e
    → table b s e ≡ Some a → IsSeparate E a.0.workers
event_separate E b s (Claim w v) a sep free given =
    let c = claim_is b s w v a given in
    let z = execution_on v (begin_at b s.store c.start (claim_places s c.start)) (claim_places s c.start) in
    subst (λ (t : Answer). IsSeparate E t.0.workers) (sym c.gives) (taken_separate E s.workers w z (free c) sep)
event_separate E b s (Step w) a sep free given =
    let c = step_is b s w a given in
    let left = step_on c.x.done (Some c.step) (work_of s c.x) in
    subst (λ (t : Answer). IsSeparate E t.0.workers) (sym c.gives)
    (fewer_separate E s.workers (slice_set s.workers w (Runs (with_step c.x left))) (stepped_back s.workers w c.x left c.there) sep)
event_separate E b s (Settle w) a sep free given =
    let c = settle_is b s w a given in
    subst (λ (t : Answer). IsSeparate E t.0.workers) (sym c.gives) (fewer_separate E s.workers (slice_set s.workers w Idle) (ended_back s.workers w) sep)
event_separate E b s (Cancel w) a sep free given =
    let c = cancel_is b s w a given in
    subst (λ (t : Answer). IsSeparate E t.0.workers) (sym c.gives) (fewer_separate E s.workers (slice_set s.workers w Idle) (ended_back s.workers w) sep)

-- what a claim takes alone is free
pub alone_free : (b : Build) (s : State) (w v : ℕ) (a : Answer) (c : IsClaim b s w v a) (p : Instance) → Has (claim_places s c.start) p
    → alone p → IsFree s.workers p
unfolding alone
alone_free b s w v a c p h counts = free_from s.workers p (places_free (held s.workers) (needs_of c.start.vertex) c.unheld p h counts)

takes_alone : (b : Build) (s : State) (a : Answer) (e : Event) → TakesFree alone b s a e
takes_alone b s a (Claim w v) = alone_free b s w v a
takes_alone b s a (Step w) = tt
takes_alone b s a (Settle w) = tt
takes_alone b s a (Cancel w) = tt

-- wherever granted events lead, no two running workers have one instance of a private or a locked key
pub reached_separate : (b : Build) (s : State) → IsReached b s → IsSeparate alone s.workers
reached_separate b s r =
    run_keeps b (λ (t : State). IsSeparate alone t.workers)
    (λ t e a sep given. event_separate alone b t e a sep (takes_alone b t a e) given)
    (opening b r.opened) s r.events r.replies (opening_separate alone r.opened.workers) r.leads

-- two running workers with one such instance are one worker, as the law says it
pub held_once : (b : Build) → IsHeldOnce b
unfolding alone
held_once b s reached w u x y p there here has_x has_y exclusive = (reached_separate b s reached).once w u x y p there here has_x has_y exclusive
