-- The instances that a running worker holds differ, and each has a tree.
use Rattle.std.proofs.Common.{◌≡◌, ℕ, List, length, Some, inl, inr, sym, ap, subst, ◌∙◌}
use Rattle.std.specs.Prelude.{slice_get, slice_set}
use Rattle.llb_tree.specs.Tree.{TreeMap}
use Rattle.llb_model.specs.Caches.{Instance, Store, put_all, Hold, Distinct}
use Rattle.llb_model.specs.Program.{Build, needs_of, step_on}
use Rattle.llb_model.specs.State.{Execution, WorkerStatus, Idle, Runs, State, opening, work_of, held, begin_at}
use Rattle.llb_events.specs.declared.event.Event.{Event}
use Rattle.llb_events.specs.declared.event.Event.TheVariants.{Claim, Step, Settle, Cancel}
use Rattle.llb_model.specs.Table.{execution_on, with_step, table}
use Rattle.llb_model.specs.WholeRunLaws.{HasDistinctNeeds, HeldAreThere}
use Rattle.llb_model.proofs.Lists.{got_set, got_replicate}
use Rattle.llb_model.proofs.StoreWrites.{put_holds, hold_all, hold_trees, hold_length}
use Rattle.llb_model.proofs.ProgramPrefixes.{step_keeps}
use Rattle.llb_model.proofs.ClaimedInstances.{places_distinct, places_length, first_length}
use Rattle.llb_model.proofs.GrantedEvents.{Answer, claim_places, claim_is, step_is, settle_is, cancel_is}
use Rattle.llb_model.proofs.RunExtension.{run_keeps}

record IsThere (store : Store) (ps : List Instance) : Type 0 where
  apart : Distinct ps
  trees : List TreeMap
  hold : Hold store ps trees

record AreThere (s : State) : Type 0 where
  each : (w : ℕ) (x : Execution) → slice_get s.workers w ≡ Some (Runs x) → IsThere s.store x.places

-- after a write elsewhere, or also there
still : (store : Store) (ps : List Instance) (ts : List TreeMap) (qs : List Instance) → IsThere store qs → IsThere (put_all store ps ts) qs
still store ps ts qs t = let h = put_holds store ps ts qs t.trees t.hold in record { apart = t.apart; trees = h.0; hold = h.1 }

written : (store : Store) (ps : List Instance) (ts : List TreeMap) → Distinct ps → length ts ≡ length ps → IsThere (put_all store ps ts) ps
written store ps ts apart count = record { apart = apart; trees = ts; hold = hold_all store ps ts apart count }

after_write : (store : Store) (ws : List WorkerStatus) (w : ℕ) (z : Execution) (ts : List TreeMap)
    → ((u : ℕ) (x : Execution) → slice_get ws u ≡ Some (Runs x) → IsThere store x.places)
    → Distinct z.places → length ts ≡ length z.places → (u : ℕ) (x : Execution) → slice_get (slice_set ws w (Runs z)) u ≡ Some (Runs x)
    → IsThere (put_all store z.places ts) x.places
after_write store ws w z ts old apart count u x there = elim (got_set ws w (Runs z) u (Runs x) there) [
  | inl h ↦
      let same : z ≡ x = cc (h.1) in
      subst (λ (t : Execution). IsThere (put_all store z.places ts) t.places) same (written store z.places ts apart count)
  | inr h ↦ still store z.places ts x.places (old u x h.1)
]

event_there : (b : Build) → HasDistinctNeeds b → (s : State) (e : Event) (a : Answer) → AreThere s → table b s e ≡ Some a → AreThere a.0
event_there b differ s (Claim w v) a f given =
    let c = claim_is b s w v a given in
    let ps = claim_places s c.start in
    let work = begin_at b s.store c.start ps in
    let count = first_length s.store c.start.inputs ps (needs_of c.start.vertex) (places_length (held s.workers) (needs_of c.start.vertex)) in
    let apart = places_distinct (held s.workers) (needs_of c.start.vertex) (differ v c.start.vertex c.begins.there) in
    subst (λ (t : Answer). AreThere t.0) (sym c.gives)
    (record { each = after_write s.store s.workers w (execution_on v work ps) work.trees f.each apart count })
event_there b differ s (Step w) a f given =
    let c = step_is b s w a given in
    let own = f.each w c.x c.there in
    let left = step_on c.x.done (Some c.step) (work_of s c.x) in
    let count = step_keeps c.x.done (Some c.step) (work_of s c.x) ∙ ap length (hold_trees s.store c.x.places own.trees own.hold)
    ∙ hold_length s.store c.x.places own.trees own.hold in
    subst (λ (t : Answer). AreThere t.0) (sym c.gives)
    (record { each = after_write s.store s.workers w (with_step c.x left) left.work.trees f.each own.apart count })
event_there b differ s (Settle w) a f given =
    let c = settle_is b s w a given in
    subst (λ (t : Answer). AreThere t.0) (sym c.gives)
    (record { each = λ u x there. elim (got_set s.workers w Idle u (Runs x) there) [ inl h ↦ absurd (cc (h.1)) | inr h ↦ f.each u x h.1 ] })
event_there b differ s (Cancel w) a f given =
    let c = cancel_is b s w a given in
    subst (λ (t : Answer). AreThere t.0) (sym c.gives)
    (record { each = λ u x there. elim (got_set s.workers w Idle u (Runs x) there) [ inl h ↦ absurd (cc (h.1)) | inr h ↦ f.each u x h.1 ] })

-- claims write different instances and steps write them again, so each running worker has a tree in each of its own
pub held_are_there : (b : Build) → HasDistinctNeeds b → HeldAreThere b
held_are_there b differ s r w x there =
    let f = run_keeps b AreThere (event_there b differ) (opening b r.opened) s r.events r.replies
    (record { each = λ w x there. absurd (let h : Runs x ≡ Idle = got_replicate r.opened.workers Idle w (Runs x) there in cc) }) r.leads in
    let own = f.each w x there in (own.apart, (own.trees, own.hold))
